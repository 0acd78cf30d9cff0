use Rattle.std.proofs.Common.{◌≡◌, ◌++◌, map, vec_len, All}
use Rattle.turn_lock.specs.Passes.{IsResting}
use Rattle.turn_lock.specs.Ending.{joined_of}
use Rattle.turn_lock.proofs.close.join_all.Given as goal

abbrev pub invariant-loop-pass : goal.invariant-loop-pass
invariant-loop-pass g l = record {
  table : l.seat.table_id ≡ l.initial.seat.table_id;
  seat : l.seat.me ≡ (record l.initial.seat.me.0 { kept = l.seat.me.0.kept }, l.initial.seat.me.1);
  kept : map joined_of l.passes.items ++ l.seat.me.0.kept ≡ map joined_of l.initial.passes.items ++ l.initial.seat.me.0.kept;
  idle : All (IsResting (record { table = l.board.table_id; seats = l.seats })) l.passes.items;
}

abbrev pub decreases-loop-pass : goal.decreases-loop-pass
decreases-loop-pass g l = vec_len l.passes
