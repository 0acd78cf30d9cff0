use Rattle.std.proofs.Common.{◌≡◌, ℕ, ◌+◌, ◌<◌, ◌≤◌, slice_index, length, List}
use Rattle.local_modules.proofs.columns.add_row.Given as goal

pub record IsDone (i n : ℕ) (old row new : List ℕ) : Type 0 where
  pub done : (k : ℕ) → k < i → k < n → slice_index new k ≡ slice_index old k + slice_index row k
  pub left : (k : ℕ) → i ≤ k → slice_index new k ≡ slice_index old k

abbrev pub invariant-loop-i : goal.invariant-loop-i
invariant-loop-i l = IsDone l.i (length l.initial.sums) l.initial.sums l.row l.sums
