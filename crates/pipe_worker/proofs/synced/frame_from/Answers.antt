use Rattle.std.proofs.Common.{sym, subst}
use Rattle.px.specs.Area.{Covers}
use Rattle.pipe_nodes.specs.declared.show.Show.{Show}
use Rattle.pipe_nodes.specs.Windows.{needed_of}
use Rattle.pipe_worker.proofs.Working.{can_show}
use Rattle.pipe_worker.proofs.synced.frame_from.Goals as goal

pub finish-requires-clause-rgb : goal.finish-requires-clause-rgb
finish-requires-clause-rgb g c κs within = (can_show c.args.job.now c.args.staged.now c.requires.planned c.requires.at c.know_right.ensures).rgb

pub finish-requires-clause-covers : goal.finish-requires-clause-covers
finish-requires-clause-covers g c κs within =
    let s = c.args.staged.now in
    subst (λ (x : Show). Covers s.plane.area (needed_of s.plane.w s.plane.h x.window)) (sym c.show-show.ensures.show) (can_show c.args.job.now s c.requires.planned c.requires.at c.know_right.ensures).covers
