use Rattle.px.specs.Painted.{IsRow, GivesOne}
use Rattle.px.proofs.row_painter.ByValueRowPainter.fill_row.Given as goal

abbrev pub invariant-loop-k : goal.invariant-loop-k
invariant-loop-k g l = IsRow (λ x y r. GivesOne (goal.F-post g l.self.value x y) r) l.x l.y 1 l.k l.row
