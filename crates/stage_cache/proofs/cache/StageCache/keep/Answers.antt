use Rattle.std.proofs.Common.{ap, sym, ◌∙◌, subst, refl, ◌≤◌, ◌∷◌}
use Rattle.std.specs.Arc.{arc_value}
use Rattle.std.specs.Map.{remove_entry}
use Rattle.pipe_nodes.specs.SamePrefix.{same_prefix}
use Rattle.stage_cache.specs.Stages.{pixels_of, IsLongestFront}
use Rattle.stage_cache.specs.StageCache.{StageCacheSeen, stage_of_staged, stages_of}
use Rattle.stage_cache.proofs.FindLemmas.{same_caches}
use Rattle.stage_cache.proofs.KeepLemmas.{gone-counted, total-kept, AreOf-kept, stages-kept, longest-kept}
use Rattle.stage_cache.proofs.cache.StageCache.keep.Goals as goal

pub overflow_sub-used : goal.overflow_sub-used
overflow_sub-used c =
    gone-counted c.self.inside.entries c.args.stage.prefix c.args.stage c.in_ok-gone.gone c.self.inside.used c.pixels-more.result
    c.know_valid.ensures c.in_ok-gone.ensures.gone (c.pixels-more.ensures ∙ ap pixels_of c.region.ensures) c.self.invariant.1

pub shed-self-inside-requires : goal.shed-self-inside-requires
shed-self-inside-requires c = record {
  used = total-kept c.self.inside.entries c.args.stage.prefix c.args.stage c.in_ok-gone.gone c.self.inside.used c.pixels-more.result c.put_front.new.entries
      c.know_valid.ensures c.in_ok-gone.ensures.gone (c.pixels-more.ensures ∙ ap pixels_of c.region.ensures) c.self.invariant.1 c.in_ok-gone.ensures.entries;
}

pub invariant_of-self-2 : goal.invariant_of-self-2
invariant_of-self-2 c =
    let shed = c.shed-self-inside.ensures in
    let source = arc_value c.self.inside.source in
    (shed.of source (AreOf-kept c.self.inside.entries c.args.stage.prefix c.args.stage source c.put_front.new.entries refl (c.requires.source ∙ sym (ap (λ s. s.source) c.self.view_is)) c.in_ok-gone.ensures.entries c.self.invariant.0), shed.used, shed.within)

pub returns-clause-stages : goal.returns-clause-stages
returns-clause-stages c =
    let shed = c.shed-self-inside.ensures in
    let s = c.args.stage in
    let fits = subst (λ n. n ≤ c.self.inside.budget) (c.pixels-more.ensures ∙ ap pixels_of c.region.ensures) c.if-more-self.false in
    rw (← c.self.view_is) (same_caches (arc_value c.self.inside.source) c.shed-self-inside.new.entries.cap c.self.inside.entries.cap c.self.inside.budget _ _
    (shed.limit ∙ ap (λ n. n.cap) c.in_ok-gone.ensures.entries)
    (stages-kept c.self.inside.entries s.prefix s c.self.inside.budget c.put_front.new.entries c.shed-self-inside.new.entries c.know_valid.ensures fits c.in_ok-gone.ensures.entries shed.stages))

pub returns-clause-longest : goal.returns-clause-longest
returns-clause-longest c = λ stored.
    let es = c.self.inside.entries in
    let s = c.args.stage in
    let new = c.shed-self-inside.new.entries in
    let fits = subst (λ n. n ≤ c.self.inside.budget) (c.pixels-more.ensures ∙ ap pixels_of c.region.ensures) c.if-more-self.false in
    subst (λ (v : StageCacheSeen). IsLongestFront v.limit v.budget (stage_of_staged s ∷ remove_entry (same_prefix s.prefix) v.stages) (stages_of new.entries)) c.self.view_is
    (longest-kept es.cap c.self.inside.budget (stage_of_staged s) (stages_of es.entries) (stages_of new.entries) fits
    (stages-kept es s.prefix s c.self.inside.budget c.put_front.new.entries new c.know_valid.ensures fits c.in_ok-gone.ensures.entries c.shed-self-inside.ensures.stages))
