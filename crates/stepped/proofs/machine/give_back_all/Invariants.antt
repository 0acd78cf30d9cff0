use Rattle.std.proofs.Common.{vec_len}
use Rattle.stepped.specs.Machine.{AreHeld}
use Rattle.stepped.proofs.machine.give_back_all.Given as goal

abbrev pub invariant-loop-seat : goal.invariant-loop-seat
invariant-loop-seat l = AreHeld l.desk l.runs.items

abbrev pub decreases-loop-seat : goal.decreases-loop-seat
decreases-loop-seat l = vec_len l.runs
