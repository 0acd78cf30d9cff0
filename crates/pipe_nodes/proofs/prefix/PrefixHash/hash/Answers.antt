use Rattle.std.specs.Arc.{arc_value}
use Rattle.pipe_nodes.proofs.PrefixLemmas.{fed_told}
use Rattle.pipe_nodes.proofs.prefix.PrefixHash.hash.Goals as goal

pub returns : goal.returns
returns g c =
    fed_told g.H.Hasher.write c.args.self.now c.self.inside.level (arc_value c.self.inside.actives).items c.args.state.now c.hash.new.state c.hash-2.new.state
    c.self.view_is c.hash.ensures c.hash-2.ensures
