use Rattle.std.proofs.Common.{◌*◌}
use Rattle.local_modules.specs.Running.{AreColumns}
use Rattle.local_modules.proofs.columns.move_rows.Given as goal

abbrev pub invariant-loop-v : goal.invariant-loop-v
invariant-loop-v l = AreColumns l.input l.lo (l.m * 3) l.v l.fn.b l.sums

abbrev pub invariant-loop-v-2 : goal.invariant-loop-v-2
invariant-loop-v-2 l = AreColumns l.input l.lo (l.m * 3) l.c l.v l.sums
