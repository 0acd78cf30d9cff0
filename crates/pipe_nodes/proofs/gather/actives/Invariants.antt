use Rattle.std.proofs.Common.{◌≡◌, ◌≤◌, length, take}
use Rattle.std.specs.Prelude.{vec_len, vec_capacity}
use Rattle.std.specs.List.{filter_map}
use Rattle.pipe_nodes.specs.Actives.{active_at}
use Rattle.pipe_nodes.proofs.gather.actives.Given as goal

-- what is active of the slots so far, and there is room for one of each
abbrev pub invariant-loop-i : goal.invariant-loop-i
invariant-loop-i l = record {
  items : l.actives.items ≡ filter_map (active_at l.items) (take l.i l.order);
  few : vec_len l.actives ≤ l.i;
  room : length l.order ≤ vec_capacity l.actives;
}
