use Rattle.std.proofs.Common.{◌≡◌, take}
use Rattle.std.specs.Prelude.{sum, map}
use Rattle.generator.specs.Rounds.{frame_sum}
use Rattle.generator.proofs.making.sum_of.Given as goal

abbrev pub invariant-loop-frame : goal.invariant-loop-frame
invariant-loop-frame l = l.all ≡ sum (map frame_sum (take l.frame-index l.frames))
