use Rattle.std.proofs.Common.{◌≡◌, Bool, cond, Some, take, sym, ap, ◌∙◌}
use Rattle.std.specs.Option.{option_copied}
use Rattle.module_order.specs.Slot.{is_slot}
use Rattle.history.specs.Item.{is_of}
use Rattle.pipe_nodes.specs.Actives.{last_of}
use Rattle.pipe_nodes.proofs.ActivesLemmas.{last_of-more}
use Rattle.pipe_nodes.proofs.gather.last_of.Goals as goal
use Rattle.pipe_nodes.proofs.gather.last_of.Goals.{then-eq, else-eq}

pub loop-item-preserved : goal.loop-item-preserved
loop-item-preserved c =
    let s = c.args.slot in
    let item = c.item-item.result in
    let before = take c.loop-item.item-index c.args.items.now in
    let more = last_of-more s c.args.items.now c.loop-item.item-index item c.loop-item-test.true c.item-item.is in
    let known : is_of s item ≡ c.eq.result = ap (is_slot s) (sym c.slot.ensures) ∙ sym c.eq.ensures in
    let after = λ (b : Bool). cond b (Some item) (last_of s before) in
    elim c.if-eq.branch [
      | then-eq w ↦ ap option_copied w.last-is ∙ sym (more ∙ ap after (known ∙ w.if-eq.true))
      | else-eq w ↦ ap option_copied w.last-is ∙ c.loop-item.invariant ∙ sym (more ∙ ap after (known ∙ w.if-eq.false))
    ]
