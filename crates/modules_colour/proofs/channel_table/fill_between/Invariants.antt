use Rattle.std.proofs.Common.{◌≡◌, ℕ, ◌<◌, ◌≤◌, ◌-◌, slice_index, List}
use Rattle.modules_colour.specs.Stepping.{weighed, IsSplit}
use Rattle.modules_colour.specs.Curving.{between}
use Rattle.modules_colour.proofs.channel_table.fill_between.Given as goal

pub record IsFilled (a b : ℕ × ℕ) (v y left : ℕ) (old new : List ℕ) : Type 0 where
  pub split : IsSplit (weighed a b v) (b.0 - a.0) y left
  pub here : (i : ℕ) → a.0 ≤ i → i < v → slice_index new i ≡ between a b i
  pub before : (i : ℕ) → i < a.0 → slice_index new i ≡ slice_index old i

abbrev pub invariant-loop-v : goal.invariant-loop-v
invariant-loop-v l = IsFilled l.fn.a l.fn.b l.v l.y l.left l.initial.table l.table
