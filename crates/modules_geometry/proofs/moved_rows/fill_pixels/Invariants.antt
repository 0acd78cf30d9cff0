use Rattle.px.specs.Painted.{IsRow}
use Rattle.modules_geometry.specs.Moved.{IsMoved}
use Rattle.modules_geometry.proofs.moved_rows.fill_pixels.Given as goal

abbrev pub invariant-loop-k : goal.invariant-loop-k
invariant-loop-k l = IsRow (IsMoved l.input l.trace) l.x l.y 3 l.k l.row
