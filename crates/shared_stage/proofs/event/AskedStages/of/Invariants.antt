use Rattle.std.proofs.Common.{◌≡◌, ◌≤◌, length, take}
use Rattle.std.specs.Prelude.{vec_len, vec_capacity}
use Rattle.shared_stage.proofs.event.AskedStages.of.Given as goal

abbrev pub invariant-loop-asked : goal.invariant-loop-asked
invariant-loop-asked l = record {
  items : l.items.items ≡ take l.asked-index l.list;
  few : vec_len l.items ≤ l.asked-index;
  room : length l.list ≤ vec_capacity l.items;
}
