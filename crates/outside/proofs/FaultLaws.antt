-- Counts over several calls.
use Rattle.std.proofs.Common.{ℕ, ◌≤◌, List, arith}
use Rattle.outside.specs.Faults.{Rose, NoneFalls}

-- a rise stays one, whatever was counted before it and after it
pub Rose-wider : (before from to after : ℕ) → before ≤ from → Rose from to → to ≤ after → Rose before after
Rose-wider before from to after b rose a = omega arith

pub NoneFalls-same : (counts : List ℕ → ℕ) → NoneFalls counts counts
NoneFalls-same counts name = omega arith

pub NoneFalls-then : (before between after : List ℕ → ℕ) → NoneFalls before between → NoneFalls between after → NoneFalls before after
NoneFalls-then before between after p q name = omega (arith, p name, q name)
