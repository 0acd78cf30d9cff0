use Rattle.std.proofs.Common.{length}
use Rattle.pipe_nodes.proofs.legs.+course_behind.Given as goal

-- how many pieces are left
abbrev pub decreases-course_behind : goal.decreases-course_behind
decreases-course_behind l = length l.pieces.now
