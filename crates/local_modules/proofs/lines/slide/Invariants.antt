use Rattle.std.proofs.Common.{◌≡◌}
use Rattle.local_modules.specs.Running.{between, channel}
use Rattle.local_modules.proofs.lines.slide.Given as goal

abbrev pub invariant-loop-j : goal.invariant-loop-j
invariant-loop-j l = l.now ≡ between (channel l.sums l.k) l.j l.fn.b

abbrev pub invariant-loop-j-2 : goal.invariant-loop-j-2
invariant-loop-j-2 l = l.now ≡ between (channel l.sums l.k) l.c l.j
