use Rattle.std.proofs.Common.{sym, ap, ◌∙◌, arith}
use Rattle.std.proofs.lemmas.Result.{IfOk-weaker}
use Rattle.px.specs.Area.{HasPixel}
use Rattle.px.proofs.PaintedLemmas.{cut_of_painted}
use Rattle.modules_raw.specs.Mapped.{mapped}
use Rattle.modules_raw.proofs.MappedLemmas.{mapped_of_cut}
use Rattle.modules_raw.proofs.mapping.map_in_turn.Goals as goal

pub returns-clause-cut : goal.returns-clause-cut
returns-clause-cut g c =
    let input = c.args.input.now in
    let sides = c.sides-w.ensures.sides in
    let makes = g.M.ChannelMap.makes c.args.map.now in
    IfOk-weaker c.paint_in_turn.result _ _ (λ p painted q part.
    cut_of_painted _ (mapped makes q) _ _ c.args.region _ p painted (sym part.kind ∙ sym c.kind.ensures)
    (sym part.wide ∙ sym (ap (λ s. s.0) sides)) (sym part.high ∙ sym (ap (λ s. s.1) sides))
    (λ x y r inside is.
    let covered : HasPixel input.area x y = record { left = omega arith; right = omega arith; top = omega arith; bottom = omega arith } in
    mapped_of_cut input q makes x y r part covered is))
    c.paint_in_turn.ensures
