use Rattle.std.proofs.Common.{length}
use Rattle.pipe_nodes.proofs.legs.+run_to_last.Given as goal

-- how many pieces are left
abbrev pub decreases-run_to_last : goal.decreases-run_to_last
decreases-run_to_last g l = length l.pieces.now
