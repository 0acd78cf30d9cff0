use Rattle.masks.specs.Coverage.{risen}
use Rattle.masks.specs.Lines.{along_at, IsFilled}
use Rattle.masks.proofs.gradient.fill_gradient.Given as goal

abbrev pub invariant-loop-k : goal.invariant-loop-k
invariant-loop-k l = IsFilled (λ k. risen (along_at l.line k) l.slope) l.k l.row
