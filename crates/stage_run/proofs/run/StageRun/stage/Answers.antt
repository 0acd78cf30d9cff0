use Rattle.std.proofs.Common.{◌≡◌, true, subst}
use Rattle.std.specs.Prelude.{IfSome, IsSome}
use Rattle.std.specs.Arc.{arc_value}
use Rattle.stage_run.specs.StageRun.{StageRunSeen, entry_of}
use Rattle.stage_run.proofs.StageLemmas.{unkept-entry}
use Rattle.stage_run.proofs.run.StageRun.stage.Goals as goal

pub returns-clause-entry : goal.returns-clause-entry
returns-clause-entry c =
    let r = c.self.inside in
    subst (λ (o : StageRunSeen). IfSome o.stage (λ a. a.unkept ≡ true → IsSome (entry_of o))) c.self.view_is (unkept-entry (arc_value r.source) r.show r.pieces.items r.regions.items r.stage r.unkept c.self.invariant)
