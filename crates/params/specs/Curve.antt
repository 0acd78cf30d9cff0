-- The nodes of a tone curve that is within its ranges.
use Rattle.std.specs.Prelude.{ℕ, ◌≤◌, List, length, map}
use Rattle.std.specs.List.{AllByRecursion}
use Rattle.std.specs.List.Sorted.{IsStrictlyIncreasing}

-- a node maps a value of a channel to another
pub record IsValue (node : ℕ × ℕ) : Type 0 where
  pub input : node.0 ≤ 1048575
  pub output : node.1 ≤ 1048575

pub record IsCurve (nodes : List (ℕ × ℕ)) : Type 0 where
  pub least : 2 ≤ length nodes
  pub most : length nodes ≤ 20
  pub values : AllByRecursion IsValue nodes
  pub rises : IsStrictlyIncreasing (map (λ n. n.0) nodes)
