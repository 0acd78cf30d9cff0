use Rattle.std.proofs.Common.{sym, ap, subst, arith}
use Rattle.std.proofs.lemmas.Result.{IfOk-weaker}
use Rattle.px.specs.Area.{HasPixel}
use Rattle.px.specs.Cut.{Cut, value_at}
use Rattle.local_modules.proofs.SharpLemmas.{grown_covers, sharpened_cut, sharpened_small}
use Rattle.local_modules.proofs.sharpening.sharpen_by_in_turn.Goals as goal

pub paint_in_turn-requires-clause-asks : goal.paint_in_turn-requires-clause-asks
paint_in_turn-requires-clause-asks c x y inside =
    let input = c.args.input.now in
    let covers = grown_covers c.args.r input.w input.h input.area c.args.region c.requires.inside c.requires.covers in
    let shaped = c.in_ok-blurred.ensures.shaped in
    let here : HasPixel input.area x y = record { left = omega arith; right = omega arith; top = omega arith; bottom = omega arith } in
    (here, c.requires.rgb, subst (λ a. HasPixel a x y) (sym (ap (λ (t : Cut). t.area) shaped)) inside, ap (λ (t : Cut). t.kind) shaped, c.requires.amount)

pub paint_in_turn-requires-clause-gives : goal.paint_in_turn-requires-clause-gives
paint_in_turn-requires-clause-gives c x y r inside is i =
    rw is (sharpened_small c.args.amount (value_at c.args.input.now x y) (value_at c.in_ok-blurred.blurred x y) i)

pub returns-clause-cut : goal.returns-clause-cut
returns-clause-cut c =
    let input = c.args.input.now in
    let sides = c.sides-w.ensures.sides in
    let covers = grown_covers c.args.r input.w input.h input.area c.args.region c.requires.inside c.requires.covers in
    let shaped = c.in_ok-blurred.ensures.shaped in
    IfOk-weaker c.paint_in_turn.result _ _ (λ p painted q part.
    sharpened_cut c.args.r c.args.amount q _ _ c.args.region input c.in_ok-blurred.blurred p (ap (λ s. s.0) sides) (ap (λ s. s.1) sides)
    c.requires.rgb covers (ap (λ (t : Cut). t.area) shaped) (c.in_ok-blurred.ensures.cut q part) part painted) c.paint_in_turn.ensures
