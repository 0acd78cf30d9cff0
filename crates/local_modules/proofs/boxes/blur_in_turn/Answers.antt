use Rattle.std.proofs.Common.{sym, ap, ◌∙◌}
use Rattle.std.proofs.lemmas.Result.{IfOk-weaker}
use Rattle.px.proofs.PaintedLemmas.{cut_of_rgb}
use Rattle.local_modules.specs.Blurring.{blurred_picture}
use Rattle.local_modules.proofs.BoxLemmas.{pixel_of_whole, painted_shape}
use Rattle.local_modules.proofs.boxes.blur_in_turn.Goals as goal

pub returns-clause-shaped : goal.returns-clause-shaped
returns-clause-shaped c =
    let sides = c.sides-w.ensures.sides in
    IfOk-weaker c.painted.result _ _ (λ p painted. painted_shape _ _ _ _ _ c.args.region _ p (ap (λ s. s.0) sides) (ap (λ s. s.1) sides) painted) c.painted.ensures

pub returns-clause-cut : goal.returns-clause-cut
returns-clause-cut c =
    let input = c.args.input.now in
    let sides = c.sides-w.ensures.sides in
    let w_is = ap (λ s. s.0) sides in
    let h_is = ap (λ s. s.1) sides in
    IfOk-weaker c.painted.result _ _ (λ p painted q part.
    let rgb = sym part.kind ∙ c.requires.rgb in
    cut_of_rgb (blurred_picture c.args.r q) _ _ c.args.region _ p painted rgb (sym part.wide ∙ sym w_is) (sym part.high ∙ sym h_is)
    (λ x y r inside is.
    pixel_of_whole c.args.r q input c.sides-w.result.0 c.sides-w.result.1 x y c.args.region r w_is h_is part rgb c.requires.covers c.requires.inside inside is))
    c.painted.ensures
