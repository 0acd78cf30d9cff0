use Rattle.std.proofs.Common.{◌≡◌, ◌+◌, ◌*◌, length}
use Rattle.std.specs.Prelude.{vec_len}
use Rattle.rows.proofs.pieces.add_times.Given as goal

abbrev pub invariant-loop : goal.invariant-loop
invariant-loop l = vec_len l.bytes ≡ vec_len l.initial.bytes + l.counter * length l.piece
