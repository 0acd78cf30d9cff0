use Rattle.std.proofs.Common.{sym, ap, subst, arith}
use Rattle.std.proofs.lemmas.Result.{IfOk-weaker}
use Rattle.px.specs.Area.{HasPixel}
use Rattle.px.specs.Cut.{value_at}
use Rattle.modules_colour.specs.Curving.{Tables, AreEntriesOf}
use Rattle.modules_colour.proofs.CurveLemmas.{curved_cut, looked_up_tops}
use Rattle.modules_colour.proofs.curving.curve_in_turn.Goals as goal

pub paint_in_turn-requires-clause-asks : goal.paint_in_turn-requires-clause-asks
paint_in_turn-requires-clause-asks c x y inside =
    let here : HasPixel c.args.input.now.area x y = record { left = omega arith; right = omega arith; top = omega arith; bottom = omega arith } in
    (here, c.requires.rgb, c.red.ensures.valid, c.green.ensures.valid, c.blue.ensures.valid)

pub paint_in_turn-requires-clause-gives : goal.paint_in_turn-requires-clause-gives
paint_in_turn-requires-clause-gives c x y r inside is i =
    let tables : Tables = record { red = c.red.result.now; green = c.green.result.now; blue = c.blue.result.now } in
    rw is (looked_up_tops tables (value_at c.args.input.now x y) c.red.ensures.valid c.green.ensures.valid c.blue.ensures.valid i)

pub returns-clause-cut : goal.returns-clause-cut
returns-clause-cut c =
    let sides = c.sides-w.ensures.sides in
    let tables : Tables = record { red = c.red.result.now; green = c.green.result.now; blue = c.blue.result.now } in
    IfOk-weaker c.paint_in_turn.result _ _ (λ p painted params q table part.
    curved_cut params tables q _ _ c.args.region c.args.input.now p
    (ap (λ s. s.0) sides) (ap (λ s. s.1) sides) c.requires.rgb c.requires.covers c.sides-w.ensures.valid.top
    (record {
      red = subst (AreEntriesOf params.red) (sym c.red.ensures.value) table.red;
      green = subst (AreEntriesOf params.green) (sym c.green.ensures.value) table.green;
      blue = subst (AreEntriesOf params.blue) (sym c.blue.ensures.value) table.blue;
    }) part painted) c.paint_in_turn.ensures
