use Rattle.std.proofs.Common.{arith, length, sym, ap, ◌∙◌}
use Rattle.std.specs.List.{position}
use Rattle.std.proofs.lemmas.Grind.{common_steps}
use Rattle.std.proofs.lemmas.Bool.Decides.{nat_tests}
use Rattle.std.proofs.lemmas.List.Quantifiers.{position-Some}
use Rattle.std.proofs.lemmas.List.Edits.{length-remove}
use Rattle.module_order.specs.Slot.{is_slot}
use Rattle.module_order.proofs.SlotLemmas.{has_place, remove_is}
use Rattle.module_order.proofs.lists.take_out.Goals as goal

pub unwrap-at-requires : goal.unwrap-at-requires
unwrap-at-requires c =
    let there = has_place c.args.slot c.args.slots.now.items c.requires.there in
    grind (arith, nat_tests, common_steps)

pub returns-clause-items : goal.returns-clause-items
returns-clause-items c =
    let slot = c.args.slot in
    let slots = c.args.slots.now.items in
    let at = sym (ap (position (is_slot slot)) c.deref.ensures.value) ∙ sym c.place_of.ensures.value ∙ c.unwrap-at.ensures in
    let found = position-Some (is_slot slot) slots c.unwrap-at.result slot at in
    c.remove.ensures.items ∙ remove_is slot slots c.unwrap-at.result found.0 found.1 (c.requires.distinct slot)

pub returns-clause-one_less : goal.returns-clause-one_less
returns-clause-one_less c =
    let slot = c.args.slot in
    let slots = c.args.slots.now.items in
    let at = sym (ap (position (is_slot slot)) c.deref.ensures.value) ∙ sym c.place_of.ensures.value ∙ c.unwrap-at.ensures in
    let found = position-Some (is_slot slot) slots c.unwrap-at.result slot at in
    omega (arith, length-remove slots c.unwrap-at.result found.0, ap length (remove_is slot slots c.unwrap-at.result found.0 found.1 (c.requires.distinct slot)))
