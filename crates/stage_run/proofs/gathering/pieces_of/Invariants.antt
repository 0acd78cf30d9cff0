use Rattle.std.proofs.Common.{◌≡◌, ◌+◌, take}
use Rattle.stage_run.proofs.gathering.pieces_of.Given as goal

-- the pieces of the instances so far, each of which was a step
abbrev pub invariant-loop-active : goal.invariant-loop-active
invariant-loop-active g l = record {
  pieces : l.pieces.items ≡ take l.active-index l.active-items;
  count : l.steps ≡ l.initial.steps + l.active-index;
}
