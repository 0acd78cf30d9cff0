use Rattle.std.proofs.Common.{◌≡◌, take}
use Rattle.params.proofs.nodes.Nodes20.few.Given as goal

abbrev pub invariant-loop-node : goal.invariant-loop-node
invariant-loop-node l = l.kept ≡ take l.node-index l.nodes
