use Rattle.std.proofs.Common.{sym, ap, ◌∙◌, arith}
use Rattle.std.proofs.lemmas.Result.{IfOk-weaker}
use Rattle.px.specs.Area.{HasPixel}
use Rattle.px.proofs.PaintedLemmas.{cut_of_painted}
use Rattle.px.proofs.PixelLemmas.{pixel_of_cut}
use Rattle.pnm.proofs.raster.Raster.cut.Goals as goal

pub returns-clause-cut : goal.returns-clause-cut
returns-clause-cut c =
    let input = c.args.self.now in
    let sides = c.sides-w.ensures.sides in
    IfOk-weaker c.paint_in_turn.result _ _ (λ p painted q part.
    cut_of_painted _ q _ _ c.args.region _ p painted (sym part.kind ∙ sym c.kind.ensures)
    (sym part.wide ∙ sym (ap (λ s. s.0) sides)) (sym part.high ∙ sym (ap (λ s. s.1) sides))
    (λ x y r inside is.
    let covered : HasPixel input.area x y = record { left = omega arith; right = omega arith; top = omega arith; bottom = omega arith } in
    is.pixel ∙ pixel_of_cut input q x y part covered))
    c.paint_in_turn.ensures
