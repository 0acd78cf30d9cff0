use Rattle.px.specs.Cut.{value_at}
use Rattle.px.specs.Painted.{IsRow}
use Rattle.modules_raw.specs.Rowwise.{IsPixel}
use Rattle.modules_raw.proofs.mosaic_rows.edge_row.Given as goal

abbrev pub invariant-loop-k : goal.invariant-loop-k
invariant-loop-k l = IsRow (IsPixel l.p.cfa l.p.w l.p.h (value_at l.p.input.now)) l.x l.y 3 l.k l.row
