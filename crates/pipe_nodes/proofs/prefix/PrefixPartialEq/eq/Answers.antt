use Rattle.std.specs.Arc.{arc_value}
use Rattle.pipe_nodes.proofs.PrefixLemmas.{same_told}
use Rattle.pipe_nodes.proofs.SameLemmas.{tells_sameness}
use Rattle.pipe_nodes.proofs.prefix.PrefixPartialEq.eq.Goals as goal

pub returns-then-self-other : goal.returns-then-self-other
returns-then-self-other c =
    let value = same_told c.args.self.now c.args.other.now c.self.inside.level c.other.inside.level (arc_value c.self.inside.actives).items (arc_value c.other.inside.actives).items c.eq.result
    c.self.view_is c.other.view_is c.if-self-other.true c.eq.ensures in
    record { value = value; same = tells_sameness c.args.self.now c.args.other.now c.eq.result value }
