use Rattle.std.proofs.Common.{◌≡◌, ◌≤◌, length, take}
use Rattle.std.specs.List.{filter_map}
use Rattle.pipe_nodes.specs.Actives.{active_at}
use Rattle.pipe_nodes.proofs.counting.active_count.Given as goal

-- how many are active of the slots so far
abbrev pub invariant-loop-i : goal.invariant-loop-i
invariant-loop-i l = record {
  count : l.count ≡ length (filter_map (active_at l.items) (take l.i l.order));
  few : l.count ≤ l.i;
}
