use Rattle.std.proofs.Common.{ap, sym, ◌∙◌, subst}
use Rattle.std.specs.Prelude.{unwrap_or}
use Rattle.std.proofs.lemmas.Result.{IfOk-weaker}
use Rattle.px.specs.Cut.{IsCutOf}
use Rattle.px.specs.Picture.{Picture}
use Rattle.pipe_nodes.specs.Actives.{actives_of}
use Rattle.pipe_nodes.specs.Course.{IsMadeBy}
use Rattle.pipe_nodes.specs.Whole.{input_of, whole}
use Rattle.pipe_nodes.specs.Windows.{windowed}
use Rattle.pipe_nodes.proofs.CourseLemmas.{last-cut, level-out}
use Rattle.pipe_nodes.proofs.run.uncached.Goals as goal

pub run_to_last-requires-clause-out : goal.run_to_last-requires-clause-out
run_to_last-requires-clause-out g c κs within =
    let level = c.args.show.now.level in
    let input = c.standing-input.result.now in
    let input_is = ap (unwrap_or c.in_ok-first.first) (sym c.plane-whole.ensures.plane) ∙ sym c.standing-input.ensures in
    level-out c.args.source.now input level c.start-course.result.geometry.out c.start-course.ensures.out (λ p part. subst (IsCutOf (input_of p level)) input_is (c.in_ok-first.ensures.cut p part))

pub returns-in-Whole-clause-cut : goal.returns-in-Whole-clause-cut
returns-in-Whole-clause-cut g c = λ q own.
    let level = c.args.show.now.level in
    let input = c.standing-input.result.now in
    let input_is = ap (unwrap_or c.in_ok-first.first) (sym c.plane-whole.ensures.plane) ∙ sym c.standing-input.ensures in
    let pieces_are = c.deref.ensures.value ∙ c.in_ok-pieces.ensures.value in
    let last = c.in_ok-last.last in
    let whole_cut = λ (q : Picture) (own : IsCutOf q c.args.source.now). subst (λ list. IsCutOf (whole q level list) c.in_ok-made.made) pieces_are
    (last-cut level c.args.source.now input (unwrap_or last.made input) c.in_ok-made.made c.deref.result.now last.pieces.now c.start-course.result last.course c.in_ok-last.ensures c.start-course.ensures.come
    (λ p part. subst (IsCutOf (input_of p level)) input_is (c.in_ok-first.ensures.cut p part))
    (subst (λ y. IsMadeBy last.pieces.now last.course y c.in_ok-made.made) c.standing-plane.ensures c.in_ok-made.ensures.made) q own) in
    subst (λ window. IsCutOf (windowed (whole q level (actives_of c.args.history.now)) window) c.in_ok-made.made) (sym c.in-Whole.is) (whole_cut q own)

pub returns-clause-cut : goal.returns-clause-cut
returns-clause-cut g c =
    let level = c.args.show.now.level in
    let input = c.standing-input.result.now in
    let input_is = ap (unwrap_or c.in_ok-first.first) (sym c.plane-whole.ensures.plane) ∙ sym c.standing-input.ensures in
    let pieces_are = c.deref.ensures.value ∙ c.in_ok-pieces.ensures.value in
    let last = c.in_ok-last.last in
    let whole_cut = λ (q : Picture) (own : IsCutOf q c.args.source.now). subst (λ list. IsCutOf (whole q level list) c.in_ok-made.made) pieces_are
    (last-cut level c.args.source.now input (unwrap_or last.made input) c.in_ok-made.made c.deref.result.now last.pieces.now c.start-course.result last.course c.in_ok-last.ensures c.start-course.ensures.come
    (λ p part. subst (IsCutOf (input_of p level)) input_is (c.in_ok-first.ensures.cut p part))
    (subst (λ y. IsMadeBy last.pieces.now last.course y c.in_ok-made.made) c.standing-plane.ensures c.in_ok-made.ensures.made) q own) in
    IfOk-weaker c.window_of.result _ _ (λ o cut q own. cut (whole q level (actives_of c.args.history.now)) (whole_cut q own)) c.window_of.ensures.cut
