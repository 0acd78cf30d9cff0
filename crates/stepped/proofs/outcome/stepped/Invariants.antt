use Rattle.std.proofs.Common.{◌≡◌, take, Some}
use Rattle.stepped.specs.Outcome.{run}
use Rattle.stepped.proofs.outcome.stepped.Given as goal

abbrev pub invariant-loop-i : goal.invariant-loop-i
invariant-loop-i g l = run l.fn.outcome (take l.i l.events) ≡ Some l.outcome
