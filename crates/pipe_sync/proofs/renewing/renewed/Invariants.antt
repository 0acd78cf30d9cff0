use Rattle.std.proofs.Common.{◌≡◌, ◌+◌, ◌≤◌, length, take, drop}
use Rattle.std.specs.Prelude.{vec_len, vec_capacity}
use Rattle.pipe_sync.specs.Changed.{changed_places}
use Rattle.pipe_sync.proofs.renewing.renewed.Given as goal

-- the pieces of the instances so far; what was committed, and what may be committed still, is no more than all
abbrev pub invariant-loop-active : goal.invariant-loop-active
invariant-loop-active g l = record {
  pieces_are : l.pieces.items ≡ take l.active-index l.active-items;
  more : l.initial.steps ≤ l.steps;
  few : l.steps + changed_places l.left.items (drop l.active-index l.active-items) ≤ l.initial.steps + changed_places l.initial.left.items l.active-items;
  len : vec_len l.pieces ≡ l.active-index;
  room : length l.active-items ≤ vec_capacity l.pieces;
}
