use Rattle.std.proofs.Common.{◌≡◌, ◌<◌, length, true, sym, ap, ◌∙◌, subst}
use Rattle.std.specs.Arc.{arc_value}
use Rattle.pipe_nodes.specs.Prefix.{PrefixSeen}
use Rattle.stage_run.proofs.StageLemmas.{can-process, processed, stage-has, stage-is, with-stage}
use Rattle.stage_run.proofs.run.StageRun.process.Goals as goal

pub process-requires-after_bounds : goal.process-requires-after_bounds
process-requires-after_bounds g c = λ κs within.
    let r = c.self.inside in
    let source = arc_value r.source in
    let from = c.in-Some.from in
    let is = stage-is source r.show r.pieces.items r.regions.items r.stage r.unkept from c.self.invariant c.in-Some.is in
    let n_is : c.len-done.result ≡ length from.prefix.actives = c.len-done.ensures.value ∙ ap (λ (p : PrefixSeen). length p.actives) c.prefix.ensures.prefix in
    let left = stage-has (λ a n. a.done < n) source r.show r.pieces.items r.stage r.unkept c.args.self.now from c.self.view_is c.in-Some.is c.requires.left in
    can-process source r.show r.pieces.items r.regions.items r.unkept from c.len-done.result c.index.result.now c.index-region.result.now c.self.invariant.plan is c.prefix.ensures.right n_is (subst (λ n. n < length r.pieces.items) (sym n_is) left)
    c.index.ensures c.index-region.ensures

pub invariant_of-self : goal.invariant_of-self
invariant_of-self g c =
    let r = c.self.inside in
    let source = arc_value r.source in
    let from = c.in-Some.from in
    let made = c.in_ok-staged.ensures in
    let is = stage-is source r.show r.pieces.items r.regions.items r.stage r.unkept from c.self.invariant c.in-Some.is in
    let n_is : c.len-done.result ≡ length from.prefix.actives = c.len-done.ensures.value ∙ ap (λ (p : PrefixSeen). length p.actives) c.prefix.ensures.prefix in
    let left = stage-has (λ a n. a.done < n) source r.show r.pieces.items r.stage r.unkept c.args.self.now from c.self.view_is c.in-Some.is c.requires.left in
    let there = processed source r.show r.pieces.items r.regions.items r.unkept from c.in_ok-staged.staged c.len-done.result c.index.result.now c.index-region.result.now c.self.invariant.plan is n_is (subst (λ n. n < length r.pieces.items) (sym n_is) left)
    c.index.ensures c.index-region.ensures made.prefix made.source made.area in
    with-stage source r.show r.pieces.items r.regions.items r.stage r.unkept true c.in_ok-staged.staged c.self.invariant there.is
