use Rattle.std.proofs.Common.{length}
use Rattle.pipe_nodes.proofs.regions.+shape_made.Given as goal

-- how many pieces are left
abbrev pub decreases-shape_made : goal.decreases-shape_made
decreases-shape_made l = length l.pieces.now
