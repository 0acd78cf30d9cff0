use Rattle.std.proofs.Common.{◌≡◌, drop}
use Rattle.params.specs.Stated.{nodes_entries}
use Rattle.params.specs.Seen.{wide_nodes}
use Rattle.params.specs.Rules.{first_fault}
use Rattle.std.proofs.Common.{negsuc}
use Rattle.params.proofs.curve.nodes_fault.Given as goal

abbrev pub invariant-loop-node : goal.invariant-loop-node
invariant-loop-node l = record {
  at : l.at ≡ l.node-index;
  same : first_fault (nodes_entries l.field l.at l.before (wide_nodes (drop l.node-index l.nodes))) ≡ first_fault (nodes_entries l.field 0 (negsuc 0) (wide_nodes l.nodes));
}
