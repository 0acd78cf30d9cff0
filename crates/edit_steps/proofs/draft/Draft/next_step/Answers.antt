use Rattle.std.proofs.Common.{arith}
use Rattle.edit_steps.proofs.FaultLemmas.{steps-few}
use Rattle.edit_steps.proofs.draft.Draft.next_step.Goals as goal

pub overflow_cast-result : goal.overflow_cast-result
overflow_cast-result c =
    let d = c.self.inside in
    omega (arith, steps-few d.settings d.opening d.steps.items c.self.invariant.0.script.allowed, c.len.ensures, d.steps.ok.0)

pub overflow_add-result : goal.overflow_add-result
overflow_add-result c =
    let d = c.self.inside in
    omega (arith, steps-few d.settings d.opening d.steps.items c.self.invariant.0.script.allowed, c.len.ensures, d.steps.ok.0)
