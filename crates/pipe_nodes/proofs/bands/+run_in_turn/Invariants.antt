use Rattle.std.proofs.Common.{length}
use Rattle.pipe_nodes.proofs.bands.+run_in_turn.Given as goal

-- how many pieces are left
abbrev pub decreases-run_in_turn : goal.decreases-run_in_turn
decreases-run_in_turn l = length l.pieces.now
