use Rattle.std.proofs.Common.{drop}
use Rattle.edit_steps.proofs.KeptLemmas.{IsOnTheWay}
use Rattle.edit_steps.proofs.script.Script.history_at.Given as goal

-- the steps that are left lead to the history of the moment
abbrev pub invariant-loop-step : goal.invariant-loop-step
invariant-loop-step l = IsOnTheWay l.self l.m l.histories (drop l.step-index l.step-items) l.left
