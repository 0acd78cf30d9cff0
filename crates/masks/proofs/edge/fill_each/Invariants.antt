use Rattle.masks.specs.Lines.{ellipse_at, IsFilledFrom}
use Rattle.masks.proofs.edge.fill_each.Given as goal

abbrev pub invariant-loop-k : goal.invariant-loop-k
invariant-loop-k l = IsFilledFrom (ellipse_at l.line l.edge) l.from l.k l.initial.row l.row
