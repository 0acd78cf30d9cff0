use Rattle.std.specs.Arc.{arc_value}
use Rattle.stage_run.proofs.StageLemmas.{can-finish}
use Rattle.stage_run.proofs.run.StageRun.finish.Goals as goal

pub finish-requires-clause-rgb : goal.finish-requires-clause-rgb
finish-requires-clause-rgb g c = λ κs within.
    let r = c.self.inside in
    (can-finish (arc_value r.source) r.show r.pieces.items r.regions.items r.stage r.unkept c.args.self.now c.in-Some.staged c.self.view_is c.in-Some.is c.self.invariant c.know_right.ensures c.requires.done).rgb

pub finish-requires-clause-covers : goal.finish-requires-clause-covers
finish-requires-clause-covers g c = λ κs within.
    let r = c.self.inside in
    (can-finish (arc_value r.source) r.show r.pieces.items r.regions.items r.stage r.unkept c.args.self.now c.in-Some.staged c.self.view_is c.in-Some.is c.self.invariant c.know_right.ensures c.requires.done).covers
