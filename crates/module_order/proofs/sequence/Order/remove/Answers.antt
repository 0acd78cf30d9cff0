use Rattle.module_order.proofs.OrderLemmas.{IsOrder-without, IsMovable-removed}
use Rattle.module_order.proofs.sequence.Order.remove.Goals as goal

pub invariant_of-self : goal.invariant_of-self
invariant_of-self c =
    let slots = c.self.inside.slots.items in
    let movable = IsMovable-removed c.args.self.now c.args.slot c.requires in
    let one_less = c.take_out.ensures.one_less in
    rw c.take_out.ensures.items (IsOrder-without slots c.args.slot c.self.invariant movable one_less)
