use Rattle.std.proofs.Common.{◌≡◌, map, take}
use Rattle.serde_json.specs.View.{view}
use Rattle.params.specs.Seen.{wide_nodes}
use Rattle.params.specs.Written.{node_data}
use Rattle.params.proofs.row_data.nodes_data.Given as goal

abbrev pub invariant-loop-node : goal.invariant-loop-node
invariant-loop-node l = map view l.values.items ≡ map node_data (wide_nodes (take l.node-index l.nodes))
