use Rattle.std.proofs.Common.{refl, subst, None, Some}
use Rattle.std.specs.Arc.{arc_value}
use Rattle.pipe_nodes.specs.SamePrefix.{same_prefix}
use Rattle.stage_cache.specs.Stages.{IsLastCovered, NoneCovered}
use Rattle.stage_cache.specs.StageCache.{StageCacheSeen, IsFound, stages_of}
use Rattle.stage_cache.proofs.FindLemmas.{found_index-none, found_index-some, told_index, told_entry, first-told, after-told, kept-promoted, same_caches}
use Rattle.stage_cache.proofs.cache.StageCache.find.Goals as goal

pub returns-in_default-clause-longest : goal.returns-in_default-clause-longest
returns-in_default-clause-longest c =
    let stages = stages_of c.self.inside.entries.entries in
    let list = c.args.list.now in
    subst (λ (v : StageCacheSeen). NoneCovered v.stages list) c.self.view_is
    (found_index-none stages list (told_index stages list c.in_ok-i.field-0 None c.in_ok-i.ensures.index c.in_default.is))

pub invariant_of-self : goal.invariant_of-self
invariant_of-self c = rw c.promote.ensures.entries
    (kept-promoted (same_prefix c.prefix.result.now) (arc_value c.self.inside.source) c.self.inside.entries.entries c.self.inside.used c.self.inside.budget c.self.invariant)

pub returns-clause-longest : goal.returns-clause-longest
returns-clause-longest c =
    let stages = stages_of c.self.inside.entries.entries in
    let list = c.args.list.now in
    subst (λ (v : StageCacheSeen). IsLastCovered v.stages list c.in-Some.i) c.self.view_is
    (found_index-some stages list c.in-Some.i (told_index stages list c.in_ok-i.field-0 (Some (c.in-Some.i, c.in-Some.stage)) c.in_ok-i.ensures.index c.in-Some.is))

pub returns-clause-stage : goal.returns-clause-stage
returns-clause-stage c =
    let es = c.self.inside.entries.entries in
    let source = arc_value c.self.inside.source in
    subst (λ (v : StageCacheSeen). IsFound v.source v.stages c.args.list.now c.in-Some.i c.in-Some.stage) c.self.view_is
    (told_entry es c.args.list.now c.in_ok-i.field-0 c.in-Some.i c.in-Some.stage source c.in_ok-i.ensures.entry c.in-Some.is c.self.invariant.0)

pub returns-clause-stages : goal.returns-clause-stages
returns-clause-stages c =
    let es = c.self.inside.entries.entries in
    let list = c.args.list.now in
    let source = arc_value c.self.inside.source in
    let index = told_index (stages_of es) list c.in_ok-i.field-0 (Some (c.in-Some.i, c.in-Some.stage)) c.in_ok-i.ensures.index c.in-Some.is in
    let found = told_entry es list c.in_ok-i.field-0 c.in-Some.i c.in-Some.stage source c.in_ok-i.ensures.entry c.in-Some.is c.self.invariant.0 in
    rw (c.promote.ensures.entries, ← c.self.view_is)
    (same_caches source c.self.inside.entries.cap c.self.inside.entries.cap c.self.inside.budget _ _ refl
    (after-told es list c.in-Some.i c.prefix.result.now c.in-Some.stage source index found c.prefix.ensures.prefix))

pub returns-clause-first : goal.returns-clause-first
returns-clause-first c =
    let es = c.self.inside.entries.entries in
    let source = arc_value c.self.inside.source in
    let found = told_entry es c.args.list.now c.in_ok-i.field-0 c.in-Some.i c.in-Some.stage source c.in_ok-i.ensures.entry c.in-Some.is c.self.invariant.0 in
    rw c.promote.ensures.entries (first-told es c.prefix.result.now c.in-Some.stage c.prefix.ensures.prefix found.entry)
