use Rattle.std.proofs.Common.{◌≡◌, ◌≤◌, suc, length, drop}
use Rattle.serde_json.specs.View.{items_view}
use Rattle.events.specs.Events.{events_from}
use Rattle.events.proofs.ReadLemmas.{with_front}
use Rattle.events.proofs.reading.events_in.Given as goal

abbrev pub invariant-loop-value : goal.invariant-loop-value
invariant-loop-value l = record {
  few : length l.events.items ≤ 65536;
  same : with_front l.events.items (events_from (suc (length l.events.items)) (items_view (drop l.value-index l.values))) ≡ events_from 1 (items_view l.values);
}
