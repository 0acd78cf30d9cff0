use Rattle.px.specs.Painted.{AreRows}
use Rattle.px.proofs.painting.fill_in_turn.Given as goal

abbrev pub invariant-loop-j : goal.invariant-loop-j
invariant-loop-j g l = AreRows (g.P.RowPainter.gives l.painter) l.rows.x l.rows.y l.rows.w l.rows.size l.j l.values
