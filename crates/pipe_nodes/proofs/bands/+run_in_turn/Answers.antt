use Rattle.std.proofs.Common.{◌≡◌, ℕ, List, [], ◌∷◌, ◌++◌, ap, sym, ◌∙◌, subst, rules}
use Rattle.std.specs.Prelude.{unwrap_or}
use Rattle.std.proofs.lemmas.Result.{IfOk-weaker}
use Rattle.px.specs.Bands.{IsShaped}
use Rattle.px.specs.Cut.{Cut}
use Rattle.px.specs.Picture.{Picture}
use Rattle.geometry.specs.Sides.{sides_after}
use Rattle.pipe_nodes.specs.declared.active.Active.{Active}
use Rattle.pipe_nodes.specs.Course.{CanRun, HasCome, IsMadeBy, sides_made}
use Rattle.pipe_nodes.specs.Kinds.{kind_behind}
use Rattle.pipe_nodes.proofs.CourseLemmas.{nothing, none-shaped, none-made, can-more, out-more, shaped-more, made-more}
use Rattle.pipe_nodes.proofs.RunLemmas.{ok_both, standing-more}
use Rattle.pipe_nodes.proofs.bands.+run_in_turn.Goals as goal

pub returns-in_default-clause-shaped : goal.returns-in_default-clause-shaped
returns-in_default-clause-shaped t c =
    ok_both c.narrowed.result _ _ _ (λ o area copy. none-shaped c.args.pieces.now (unwrap_or c.args.made c.args.input.now) o c.args.region (nothing c.args.pieces.now c.in_default.ensures.cases) area copy) c.narrowed.ensures.area c.narrowed.ensures.cut

pub returns-in_default-clause-made : goal.returns-in_default-clause-made
returns-in_default-clause-made t c =
    IfOk-weaker c.narrowed.result _ _ (λ o copy. none-made c.args.pieces.now c.args.course (unwrap_or c.args.made c.args.input.now) o (nothing c.args.pieces.now c.in_default.ensures.cases) copy) c.narrowed.ensures.cut

pub run_in_turn-requires : goal.run_in_turn-requires
run_in_turn-requires t c =
    let a : Active = c.in-Some.piece.now in
    let later = c.in-Some.later.now in
    let x_is = c.active-active.ensures.active in
    let p = c.standing-plane.result.now in
    let stood = c.standing-plane.ensures in
    let next = c.in_ok-next.next in
    let joined : unwrap_or c.passed_on-made.result.0 c.args.input.now ≡ unwrap_or next p = ap (λ o. unwrap_or o c.args.input.now) c.passed_on-made.ensures ∙ standing-more next c.args.made c.args.input.now ∙ ap (unwrap_or next) (sym stood) in
    let sides_is : c.roi_out-columns.result ≡ sides_after a.params (p.w, p.h) = c.roi_out-columns.ensures.sides ∙ ap (sides_after c.active-active.result.now.params) c.sides-w.ensures.sides ∙ ap (λ (y : Active). sides_after y.params (p.w, p.h)) x_is in
    let out : c.push.new.self.geometry.out ≡ sides_after a.params c.args.course.geometry.out = c.push.ensures.out ∙ ap (λ (y : Active). sides_after y.params c.args.course.geometry.out) x_is in (
      search rules,
      (
        out-more a c.level.result c.tracing.result p _ next c.region_before-needed.result c.args.course.geometry.out c.push.new.self.geometry.out out (c.requires.out ∙ ap (λ (y : Cut). (y.w, y.h)) (sym stood)) joined c.in_ok-next.ensures,
        can-more c.args.pieces.now later a c.level.result c.tracing.result p _ next c.region_before-needed.result c.args.region c.roi_out-columns.result c.in-Some.ensures.cases.0
            (subst (λ y. CanRun c.args.pieces.now y c.args.region) (sym stood) c.requires.can) sides_is c.region_before-needed.ensures.region joined c.in_ok-next.ensures,
      ),
    )

pub returns-clause-shaped : goal.returns-clause-shaped
returns-clause-shaped t c =
    let a : Active = c.in-Some.piece.now in
    let later = c.in-Some.later.now in
    let x_is = c.active-active.ensures.active in
    let p = c.standing-plane.result.now in
    let stood = c.standing-plane.ensures in
    let next = c.in_ok-next.next in
    let joined : unwrap_or c.passed_on-made.result.0 c.args.input.now ≡ unwrap_or next p = ap (λ o. unwrap_or o c.args.input.now) c.passed_on-made.ensures ∙ standing-more next c.args.made c.args.input.now ∙ ap (unwrap_or next) (sym stood) in
    IfOk-weaker c.run_in_turn.result _ _ (λ o shaped.
    subst (λ (y : Cut). IsShaped (kind_behind y.kind c.args.pieces.now) (sides_made c.args.pieces.now (y.w, y.h)).0 (sides_made c.args.pieces.now (y.w, y.h)).1 c.args.region o) stood
    (shaped-more c.args.pieces.now later a c.level.result c.tracing.result p _ o next c.region_before-needed.result c.args.region c.in-Some.ensures.cases.0 joined c.in_ok-next.ensures shaped)) c.run_in_turn.ensures.shaped

pub returns-clause-made : goal.returns-clause-made
returns-clause-made t c =
    let a : Active = c.in-Some.piece.now in
    let later = c.in-Some.later.now in
    let x_is = c.active-active.ensures.active in
    let p = c.standing-plane.result.now in
    let stood = c.standing-plane.ensures in
    let next = c.in_ok-next.next in
    let joined : unwrap_or c.passed_on-made.result.0 c.args.input.now ≡ unwrap_or next p = ap (λ o. unwrap_or o c.args.input.now) c.passed_on-made.ensures ∙ standing-more next c.args.made c.args.input.now ∙ ap (unwrap_or next) (sym stood) in
    let push = subst (λ y. (q : Picture) (l : ℕ) (before : List Active) → HasCome q l before c.args.course → HasCome q l (before ++ y ∷ []) c.push.new.self) x_is c.push.ensures.come in
    IfOk-weaker c.run_in_turn.result _ _ (λ o rest.
    subst (λ y. IsMadeBy c.args.pieces.now c.args.course y o) stood
    (made-more c.args.pieces.now later a c.args.course c.push.new.self c.level.result c.tracing.result p _ o next c.region_before-needed.result c.in-Some.ensures.cases.0 c.level.ensures.level
    (c.requires.out ∙ ap (λ (y : Cut). (y.w, y.h)) (sym stood)) joined c.tracing.ensures.traces push c.in_ok-next.ensures rest)) c.run_in_turn.ensures.made
