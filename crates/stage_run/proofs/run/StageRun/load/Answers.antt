use Rattle.std.proofs.Common.{false}
use Rattle.std.specs.Arc.{arc_value}
use Rattle.stage_run.proofs.StageLemmas.{loaded, with-stage}
use Rattle.stage_run.proofs.run.StageRun.load.Goals as goal

pub invariant_of-self : goal.invariant_of-self
invariant_of-self g c =
    let r = c.self.inside in
    let made = c.in_ok-staged.ensures in
    let there = loaded (arc_value r.source) r.show r.pieces.items r.regions.items c.in_ok-staged.staged c.index-region.result.now c.self.invariant.plan made.prefix made.source made.area c.index-region.ensures in
    with-stage (arc_value r.source) r.show r.pieces.items r.regions.items r.stage r.unkept false c.in_ok-staged.staged c.self.invariant there.is
