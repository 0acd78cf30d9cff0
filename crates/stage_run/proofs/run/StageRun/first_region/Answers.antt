use Rattle.std.specs.Arc.{arc_value}
use Rattle.stage_run.proofs.StageLemmas.{first-inside}
use Rattle.stage_run.proofs.run.StageRun.first_region.Goals as goal

pub returns-clause-inside : goal.returns-clause-inside
returns-clause-inside c =
    let r = c.self.inside in
    first-inside (arc_value r.source) r.show r.pieces.items r.regions.items r.stage r.unkept c.args.self.now c.index.result.now c.self.view_is c.self.invariant c.index.ensures
