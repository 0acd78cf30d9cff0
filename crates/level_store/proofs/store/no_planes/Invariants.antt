use Rattle.std.proofs.Common.{◌≡◌, ◌≤◌, None}
use Rattle.std.specs.Prelude.{replicate, vec_len, vec_capacity}
use Rattle.level_store.proofs.store.no_planes.Given as goal

abbrev pub invariant-loop-level : goal.invariant-loop-level
invariant-loop-level l = record {
  items : l.planes.items ≡ replicate l._level None;
  len : vec_len l.planes ≡ l._level;
  room : 9 ≤ vec_capacity l.planes;
}
