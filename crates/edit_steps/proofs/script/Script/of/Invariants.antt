use Rattle.std.specs.Vec.Iter.{into_iter_items}
use Rattle.edit_steps.specs.Script.{recipe}
use Rattle.edit_steps.proofs.KeptLemmas.{IsFilling}
use Rattle.edit_steps.proofs.script.Script.of.Given as goal

-- the draft and the steps that are left make the whole
abbrev pub invariant-loop-step : goal.invariant-loop-step
invariant-loop-step l = IsFilling (recipe l.fn.settings l.fn.opening l.fn.steps.items) l.draft (into_iter_items l.step-iterator)
