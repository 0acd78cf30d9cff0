use Rattle.std.proofs.Common.{◌+◌, [], drop, false, sym, ap, ◌∙◌, subst, Some}
use Rattle.std.specs.Arc.{arc_value}
use Rattle.stage_cache.specs.Stages.{IsRising}
use Rattle.stage_run.specs.StageRun.{stage_at}
use Rattle.stage_run.proofs.AskedLemmas.{asked-list, prefixes-rising}
use Rattle.stage_run.proofs.StageLemmas.{found-in, same-run, with-stage}
use Rattle.stage_run.proofs.run.StageRun.find.Goals as goal

pub find-requires : goal.find-requires
find-requires c = record {
  rising = subst IsRising (sym (c.deref-3.ensures.value ∙ c.in_ok-asked.ensures)) (prefixes-rising c.self.inside.show.level [] c.deref.result.now (drop 1 c.deref-2.result.now));
}

pub invariant_of-self : goal.invariant_of-self
invariant_of-self c =
    let r = c.self.inside in
    let list = c.deref-3.result.now in
    let list_is = asked-list r.show.level list c.in_ok-asked.asked.items c.deref.result.now r.pieces.items c.deref-2.result.now r.regions.items c.deref-3.ensures.value c.in_ok-asked.ensures c.deref.ensures.value c.deref-2.ensures.value in
    let there = found-in (arc_value r.source) r.show r.pieces.items r.regions.items r.stage r.unkept c.args.self.now c.args.cache.now list c.in_ok-i.field-0 c.in-Some.i c.in-Some.staged
    c.self.view_is c.self.invariant c.requires.source list_is c.in_ok-i.ensures.stage c.in-Some.is in
    with-stage (arc_value r.source) r.show r.pieces.items r.regions.items r.stage r.unkept false c.in-Some.staged c.self.invariant there.is

pub returns-clause-run : goal.returns-clause-run
returns-clause-run c =
    let r = c.self.inside in
    let list = c.deref-3.result.now in
    let list_is = asked-list r.show.level list c.in_ok-asked.asked.items c.deref.result.now r.pieces.items c.deref-2.result.now r.regions.items c.deref-3.ensures.value c.in_ok-asked.ensures c.deref.ensures.value c.deref-2.ensures.value in
    let there = found-in (arc_value r.source) r.show r.pieces.items r.regions.items r.stage r.unkept c.args.self.now c.args.cache.now list c.in_ok-i.field-0 c.in-Some.i c.in-Some.staged
    c.self.view_is c.self.invariant c.requires.source list_is c.in_ok-i.ensures.stage c.in-Some.is in
    same-run (arc_value r.source) r.show r.pieces.items (Some c.in-Some.staged) false c.args.self.now r.stage r.unkept (stage_at (c.in-Some.i + 1) false) c.self.view_is (ap (λ n. stage_at n false) there.count)
