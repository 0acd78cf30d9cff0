use Rattle.std.proofs.Common.{◌≡◌, ◌+◌, ◌≤◌, None}
use Rattle.std.specs.Prelude.{replicate, vec_len, vec_capacity}
use Rattle.stepped.proofs.seats.no_runs.Given as goal

abbrev pub invariant-loop-seat : goal.invariant-loop-seat
invariant-loop-seat l = record {
  items : l.runs.items ≡ replicate l._seat None;
  len : vec_len l.runs ≡ l._seat;
  room : l.workers + 1 ≤ vec_capacity l.runs;
}
