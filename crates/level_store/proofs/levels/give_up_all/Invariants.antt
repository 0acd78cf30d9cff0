use Rattle.std.proofs.Common.{length}
use Rattle.level_store.specs.Agreement.{Agree}
use Rattle.level_store.proofs.levels.give_up_all.Given as goal

abbrev pub invariant-loop-seat : goal.invariant-loop-seat
invariant-loop-seat l = Agree l.mips.entries l.holds

abbrev pub decreases-loop-seat : goal.decreases-loop-seat
decreases-loop-seat l = length l.holds
