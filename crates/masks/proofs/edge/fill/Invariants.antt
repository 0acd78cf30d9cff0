use Rattle.masks.specs.Lines.{IsFilledFrom}
use Rattle.masks.proofs.edge.fill.Given as goal

abbrev pub invariant-loop-k : goal.invariant-loop-k
invariant-loop-k l = IsFilledFrom (λ k. l.value) l.from l.k l.initial.row l.row
