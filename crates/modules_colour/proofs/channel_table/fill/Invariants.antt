use Rattle.std.proofs.Common.{◌≡◌, ℕ, ◌<◌, ◌≤◌, ◌-◌, slice_index, List, drop, get_or}
use Rattle.modules_colour.specs.Curving.{curved, from_node}
use Rattle.modules_colour.proofs.channel_table.fill.Given as goal

pub record AreDone (nodes : List (ℕ × ℕ)) (i : ℕ) (last : ℕ × ℕ) (table : List ℕ) : Type 0 where
  pub below : (v : ℕ) → v < last.0 → slice_index table v ≡ curved nodes v
  pub later : (v : ℕ) → last.0 ≤ v → curved nodes v ≡ from_node last (drop i nodes) v
  pub place : 0 < i
  pub last_is : last ≡ get_or nodes (i - 1) (0, 0)
  pub input : last.0 ≤ 1048575
  pub output : last.1 ≤ 1048575

abbrev pub invariant-loop-i : goal.invariant-loop-i
invariant-loop-i l = AreDone l.nodes l.i l.last l.table
