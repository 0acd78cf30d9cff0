use Rattle.std.proofs.Common.{◌≡◌, ap, ◌∙◌}
use Rattle.std.specs.List.{insert}
use Rattle.module_order.specs.Slot.{without}
use Rattle.module_order.proofs.OrderLemmas.{IsOrder-insert, IsOrder-without, MayStand-moved, IsMovable-moved}
use Rattle.module_order.proofs.sequence.Order.move_to.Goals as goal

pub invariant_of-self : goal.invariant_of-self
invariant_of-self c =
    let slots = c.self.inside.slots.items in
    let movable = IsMovable-moved c.args.self.now c.args.slot c.args.place c.requires in
    let one_less = c.take_out.ensures.one_less in
    let may = MayStand-moved slots c.args.self.now c.args.slot c.args.place c.self.view_is c.self.invariant.few one_less c.requires in
    let kept = IsOrder-without slots c.args.slot c.self.invariant movable one_less in
    let placed : c.insert.new.self.items ≡ insert (without slots c.args.slot) c.args.place c.args.slot = (rw c.unwrap.ensures at c.insert.ensures.items) ∙ ap (λ list. insert list c.args.place c.args.slot) c.take_out.ensures.items in
    rw placed (IsOrder-insert (without slots c.args.slot) c.args.slot c.args.place kept may)
