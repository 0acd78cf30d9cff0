use Rattle.std.proofs.Common.{◌≡◌, ◌≢◌, ℕ, ◌<◌, slice_index_or}
use Rattle.turn_lock.specs.Known.{Known}
use Rattle.turn_lock.proofs.close.take_first.Given as goal

abbrev pub invariant-loop-i : goal.invariant-loop-i
invariant-loop-i g l = record {
  same : l.passes.items ≡ l.initial.passes.items;
  passed : (k : ℕ) (p : Known g.row.T-Name.Denot g.row.T-Entry.Denot) → k < l.i → (slice_index_or l.passes.items k p).number ≢ 0;
}
