use Rattle.std.proofs.Common.{ap, arith}
use Rattle.edit_steps.specs.Script.{recipe, changes}
use Rattle.edit_steps.proofs.KeptLemmas.{kept-count, changes-most}
use Rattle.edit_steps.proofs.script.Script.changes.Goals as goal

pub overflow_cast-result : goal.overflow_cast-result
overflow_cast-result c =
    let s = c.self.inside in
    let r = recipe s.settings s.opening s.steps.items in
    omega (arith, kept-count r s.changes.items c.self.invariant, changes-most r c.self.invariant.script, c.len.ensures, s.changes.ok.0)

pub returns-clause-count : goal.returns-clause-count
returns-clause-count c =
    let s = c.self.inside in
    let r = recipe s.settings s.opening s.steps.items in
    omega (arith, kept-count r s.changes.items c.self.invariant, c.len.ensures, s.changes.ok.0, ap changes c.self.view_is)

pub returns-clause-few : goal.returns-clause-few
returns-clause-few c =
    let s = c.self.inside in
    let r = recipe s.settings s.opening s.steps.items in
    omega (arith, kept-count r s.changes.items c.self.invariant, changes-most r c.self.invariant.script, c.len.ensures, s.changes.ok.0)
