use Rattle.px.specs.Painted.{IsRow}
use Rattle.pipe_nodes.specs.Windows.{IsScaled}
use Rattle.pipe_nodes.proofs.scaling.scale_row.Given as goal

-- the pixels so far
abbrev pub invariant-loop-k : goal.invariant-loop-k
invariant-loop-k l = IsRow (IsScaled l.plane l.factor l.left l.top) l.x l.y 3 l.k l.row
