use Rattle.std.proofs.Common.{arith}
use Rattle.pipe_worker.proofs.Trying.{early_tried}
use Rattle.pipe_worker.proofs.attempts.attempt_on.Goals as goal

pub returns-in-Superseded-clause-tried : goal.returns-in-Superseded-clause-tried
returns-in-Superseded-clause-tried g c =
    early_tried _ _ _ _ _ c.args.passes.now _ _ c.look_once.ensures.saw (omega arith) (omega arith) c.in-Superseded.ensures.shows

pub returns-in-Err-clause-tried : goal.returns-in-Err-clause-tried
returns-in-Err-clause-tried g c =
    early_tried _ _ _ _ _ c.args.passes.now _ _ c.look_once.ensures.saw c.in-Err.ensures.least c.in-Err.ensures.most tt
