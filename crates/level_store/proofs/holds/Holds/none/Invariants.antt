use Rattle.std.proofs.Common.{◌≡◌, ◌+◌, ◌≤◌, None}
use Rattle.std.specs.Prelude.{replicate, vec_len, vec_capacity}
use Rattle.level_store.proofs.holds.Holds.none.Given as goal

abbrev pub invariant-loop-seat : goal.invariant-loop-seat
invariant-loop-seat l = record {
  items : l.passes.items ≡ replicate l._seat None;
  len : vec_len l.passes ≡ l._seat;
  room : l.workers + 1 ≤ vec_capacity l.passes;
}
