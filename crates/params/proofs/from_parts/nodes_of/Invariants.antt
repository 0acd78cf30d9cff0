use Rattle.std.proofs.Common.{◌≡◌, take}
use Rattle.params.specs.Ranges.{nodes_of}
use Rattle.params.proofs.from_parts.nodes_of.Given as goal

abbrev pub invariant-loop-pair : goal.invariant-loop-pair
invariant-loop-pair l = l.nodes ≡ nodes_of (take l.pair-index l.pairs)
