use Rattle.std.proofs.Common.{◌≤◌, ◌-◌}
use Rattle.masks.specs.Lines.{ellipse_at, IsFilled}
use Rattle.masks.proofs.edge.fill_ellipse.Given as goal

abbrev pub invariant-loop-from : goal.invariant-loop-from
invariant-loop-from l = record { filled : IsFilled (ellipse_at l.line l.edge) l.from l.row; within : l.from ≤ l.n }

abbrev pub decreases-loop-from : goal.decreases-loop-from
decreases-loop-from l = l.n - l.from
