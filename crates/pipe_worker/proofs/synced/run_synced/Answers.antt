use Rattle.pipe_worker.proofs.Trying.{shown_tried}
use Rattle.pipe_worker.proofs.synced.run_synced.Goals as goal

pub returns-in-Done-clause-tried : goal.returns-in-Done-clause-tried
returns-in-Done-clause-tried g c =
    let w = c.in-Done.ensures.went in
    shown_tried c.args.job.now _ _ _ _ c.args.passes.now _ _ _ c.show.result c.in-Ok.ensures.began w.1 w.2.0 c.show.ensures.saw c.show.ensures.shown
