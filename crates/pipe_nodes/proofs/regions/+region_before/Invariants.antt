use Rattle.std.proofs.Common.{length}
use Rattle.pipe_nodes.proofs.regions.+region_before.Given as goal

-- how many pieces are left
abbrev pub decreases-region_before : goal.decreases-region_before
decreases-region_before l = length l.pieces.now
