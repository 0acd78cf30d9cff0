use Rattle.std.proofs.Common.{map, sym, ap, ◌∙◌, arith}
use Rattle.std.proofs.lemmas.Result.{IfOk-weaker}
use Rattle.px.specs.Area.{HasPixel}
use Rattle.px.specs.Cut.{value_at}
use Rattle.px.proofs.PaintedLemmas.{cut_of_rgb, pixel_of_part}
use Rattle.modules_colour.specs.Exposing.{exposed, exposed_picture}
use Rattle.modules_colour.proofs.ExposeLemmas.{exposed_tops}
use Rattle.modules_colour.proofs.exposing.exposure.Goals as goal

pub paint-requires-clause-asks : goal.paint-requires-clause-asks
paint-requires-clause-asks g c κs within x y inside =
    let here : HasPixel c.args.input.now.area x y = record { left = omega arith; right = omega arith; top = omega arith; bottom = omega arith } in
    (here, c.requires.rgb, c.requires.within)

pub paint-requires-clause-gives : goal.paint-requires-clause-gives
paint-requires-clause-gives g c κs within x y r inside is i = rw is (exposed_tops c.args.params.now (value_at c.args.input.now x y 0) (value_at c.args.input.now x y 1) (value_at c.args.input.now x y 2) i)

pub returns-clause-cut : goal.returns-clause-cut
returns-clause-cut g c =
    let input = c.args.input.now in
    let sides = c.sides-w.ensures.sides in
    IfOk-weaker c.paint.result _ _ (λ p painted q part.
    let rgb = sym part.kind ∙ c.requires.rgb in
    cut_of_rgb (exposed_picture c.args.params.now q) _ _ c.args.region _ p painted rgb
    (sym part.wide ∙ sym (ap (λ s. s.0) sides)) (sym part.high ∙ sym (ap (λ s. s.1) sides))
    (λ x y r inside is.
    let covered : HasPixel input.area x y = record { left = omega arith; right = omega arith; top = omega arith; bottom = omega arith } in
    is ∙ ap (map (exposed c.args.params.now)) (pixel_of_part input q x y part rgb covered)))
    c.paint.ensures
