use Rattle.module_order.proofs.OrderLemmas.{IsOrder-insert, MayStand-inserted}
use Rattle.module_order.proofs.sequence.Order.insert.Goals as goal

pub invariant_of-self-2 : goal.invariant_of-self-2
invariant_of-self-2 c =
    let slots = c.self.inside.slots.items in
    let may = MayStand-inserted slots c.args.self.now c.args.slot c.args.place c.self.view_is c.requires in
    rw c.in_ok-insert.ensures.items (IsOrder-insert slots c.args.slot c.args.place c.self.invariant may)
