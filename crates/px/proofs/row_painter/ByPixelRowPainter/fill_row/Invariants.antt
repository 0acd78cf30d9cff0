use Rattle.px.specs.Painted.{IsRow}
use Rattle.px.proofs.row_painter.ByPixelRowPainter.fill_row.Given as goal

abbrev pub invariant-loop-k : goal.invariant-loop-k
invariant-loop-k g l = IsRow (λ x y r. goal.F-post g l.self.pixel x y r) l.x l.y 3 l.k l.row
