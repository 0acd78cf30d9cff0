use Rattle.std.proofs.Common.{◌≡◌, ◌≤◌, take, length}
use Rattle.std.specs.Prelude.{vec_len, vec_capacity}
use Rattle.pipe_nodes.proofs.run.committed.Given as goal

-- the pieces are those of the instances so far, and there is room for the others
abbrev pub invariant-loop-active : goal.invariant-loop-active
invariant-loop-active l = record {
  items : l.pieces.items ≡ take l.active-index l.active-items;
  len : vec_len l.pieces ≡ l.active-index;
  room : length l.active-items ≤ vec_capacity l.pieces;
}
