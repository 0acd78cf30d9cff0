use Rattle.std.proofs.Common.{sym, ap, ◌∙◌, arith, refl}
use Rattle.std.proofs.lemmas.Result.{IfOk-weaker}
use Rattle.px.specs.declared.kind.PlaneKind.TheVariants.{Mosaic}
use Rattle.px.specs.Area.{Covers}
use Rattle.px.proofs.PaintedLemmas.{cut_of_rgb}
use Rattle.modules_raw.specs.Demosaic.{demosaiced_by, window}
use Rattle.modules_raw.proofs.WindowLemmas.{window_covered, pixel_of_whole}
use Rattle.modules_raw.proofs.demosaicing.demosaic_mosaic_in_turn.Goals as goal

pub returns-clause-cut : goal.returns-clause-cut
returns-clause-cut c =
    let input = c.args.input.now in
    let sides = c.sides-w.ensures.sides in
    let w_is = ap (λ s. s.0) sides in
    let h_is = ap (λ s. s.1) sides in
    IfOk-weaker c.paint_in_turn.result _ _ (λ p painted q part.
    cut_of_rgb (demosaiced_by (Mosaic c.args.cfa) q) _ _ c.args.region _ p painted refl (sym part.wide ∙ sym w_is) (sym part.high ∙ sym h_is)
    (λ x y r inside is.
    let covered : Covers input.area (window c.sides-w.result.0 c.sides-w.result.1 x y) =
    rw (w_is, h_is) (window_covered input.area c.args.region input.w input.h x y c.requires.inside c.requires.covers inside) in
    pixel_of_whole c.args.cfa q input c.sides-w.result.0 c.sides-w.result.1 x y r (w_is ∙ part.wide) (h_is ∙ part.high) part c.requires.mosaic
    (omega arith) (omega arith) covered is))
    c.paint_in_turn.ensures
