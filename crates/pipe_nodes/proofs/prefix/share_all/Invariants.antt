use Rattle.std.proofs.Common.{◌≡◌, ◌+◌, ◌≤◌, length, map, take}
use Rattle.std.specs.Prelude.{vec_len, vec_capacity}
use Rattle.std.specs.Arc.{arc_value}
use Rattle.pipe_nodes.proofs.prefix.share_all.Given as goal

-- the instances so far are shared, and there is room for all and one more
abbrev pub invariant-loop-active : goal.invariant-loop-active
invariant-loop-active l = record {
  items : map arc_value l.shared.items ≡ map arc_value (take l.active-index l.actives);
  few : vec_len l.shared ≤ l.active-index;
  room : length l.actives + 1 ≤ vec_capacity l.shared;
}
