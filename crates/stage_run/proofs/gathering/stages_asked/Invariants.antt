use Rattle.std.proofs.Common.{◌≡◌, [], take, drop}
use Rattle.pipe_nodes.specs.Prefix.{prefix}
use Rattle.stage_run.specs.Asked.{prefixes}
use Rattle.stage_run.proofs.gathering.stages_asked.Given as goal

-- the prefixes so far, and the last of them
abbrev pub invariant-loop-i : goal.invariant-loop-i
invariant-loop-i l = record {
  list : l.list.items ≡ take l.i (prefixes l.level [] l.pieces (drop 1 l.regions));
  last : l.prefix ≡ prefix l.level (take l.i l.pieces);
}
