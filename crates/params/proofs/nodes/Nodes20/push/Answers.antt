use Rattle.std.proofs.Common.{◌<◌, length, take}
use Rattle.params.proofs.NodesLemmas.{pushed}
use Rattle.params.proofs.nodes.Nodes20.push.Goals as goal

pub invariant_of-self : goal.invariant_of-self
invariant_of-self c =
    let n = c.self.inside in
    let i = c.self.invariant in
    let room : length (take n.count n.nodes) < 20 = rw c.self.view_is c.requires.room in
    pushed n.count n.nodes c.args.node i.0 i.1 i.2 room
