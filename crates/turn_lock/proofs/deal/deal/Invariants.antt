use Rattle.std.proofs.Common.{◌≡◌, ◌-◌, [], map, vec_capacity}
use Rattle.std.specs.List.{range_with_len}
use Rattle.turn_lock.specs.Passes.{known_of}
use Rattle.turn_lock.proofs.deal.deal.Given as goal

abbrev pub invariant-loop-number : goal.invariant-loop-number
invariant-loop-number g l = record {
  table : l.seat.table_id ≡ l.initial.seat.table_id;
  seat : l.seat.me ≡ (record l.initial.seat.me.0 { count = l.number }, []);
  passes : l.passes.items ≡ map (λ k. record (known_of l.initial.seat.table_id l.seats l.initial.seat.me.0) { number = k }) (range_with_len 1 (l.number - 1));
  capacity : vec_capacity l.passes ≡ vec_capacity l.initial.passes;
}
