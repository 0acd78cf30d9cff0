use Rattle.std.proofs.Common.{length}
use Rattle.pipe_run.proofs.planning.+plan_back.Given as goal

-- how many pieces are left
abbrev pub decreases-plan_back : goal.decreases-plan_back
decreases-plan_back l = length l.pieces.now
