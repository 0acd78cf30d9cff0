use Rattle.std.proofs.Common.{ap, ◌∙◌}
use Rattle.std.specs.Arc.{arc_value}
use Rattle.pipe_nodes.specs.Staged.{StagedSeen}
use Rattle.stage_cache.specs.Stages.{keep_answer, stages_after_keep}
use Rattle.stage_cache.specs.StageCache.{StageCacheSeen, stage_of_staged}
use Rattle.stage_run.proofs.StageLemmas.{kept-entry}
use Rattle.stage_run.proofs.run.StageRun.keep.Goals as goal

pub returns-clause-kept : goal.returns-clause-kept
returns-clause-kept c =
    let r = c.self.inside in
    let s = c.in-Some.staged in
    let old : StageCacheSeen = c.args.cache.now in
    record {
      entry = stage_of_staged s;
      entry_is = kept-entry (arc_value r.source) r.show r.pieces.items r.regions.items r.stage r.unkept c.args.self.now s c.self.view_is c.in-Some.is c.self.invariant c.requires.unkept;
      answer = c.in_ok-kept.ensures.answer ∙ ap (λ (x : StagedSeen). keep_answer old.budget (stage_of_staged x)) c.in_ok-share.ensures;
      stages = c.in_ok-kept.ensures.stages ∙ ap (λ (x : StagedSeen). record old { stages = stages_after_keep old.limit old.budget (stage_of_staged x) old.stages }) c.in_ok-share.ensures;
    }
