use Rattle.std.proofs.Common.{length, ap, arith}
use Rattle.edit_steps.specs.Script.{Recipe}
use Rattle.edit_steps.proofs.FaultLemmas.{steps-few}
use Rattle.edit_steps.proofs.script.Script.step_count.Goals as goal

pub overflow_cast-result : goal.overflow_cast-result
overflow_cast-result c =
    let s = c.self.inside in
    omega (arith, steps-few s.settings s.opening s.steps.items c.self.invariant.script.allowed, c.len.ensures, s.steps.ok.0)

pub returns-clause-count : goal.returns-clause-count
returns-clause-count c =
    let s = c.self.inside in
    omega (arith, c.len.ensures, s.steps.ok.0, ap (λ (r : Recipe). length r.steps) c.self.view_is)

pub returns-clause-few : goal.returns-clause-few
returns-clause-few c =
    let s = c.self.inside in
    omega (arith, steps-few s.settings s.opening s.steps.items c.self.invariant.script.allowed, c.len.ensures, s.steps.ok.0)
