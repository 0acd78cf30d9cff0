use Rattle.std.proofs.Common.{◌≡◌, ℕ, ◌<◌, ◌≤◌, List, slice_index}
use Rattle.modules_colour.proofs.channel_table.fill_flat.Given as goal

pub record IsFlat (from v y : ℕ) (old new : List ℕ) : Type 0 where
  pub here : (i : ℕ) → from ≤ i → i < v → slice_index new i ≡ y
  pub before : (i : ℕ) → i < from → slice_index new i ≡ slice_index old i

abbrev pub invariant-loop-v : goal.invariant-loop-v
invariant-loop-v l = IsFlat l.from l.v l.y l.initial.table l.table
