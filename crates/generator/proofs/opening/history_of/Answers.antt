use Rattle.std.proofs.Common.{◌≡◌, List, sym, ap, ◌∙◌, subst}
use Rattle.module_order.specs.declared.slots.Slot.{Slot}
use Rattle.module_order.specs.Slot.{start_slots}
use Rattle.history.specs.declared.items.Item.{Item}
use Rattle.history.specs.History.{IsHistory}
use Rattle.history.specs.Stack.{stack}
use Rattle.history.specs.Faults.{stack_fault}
use Rattle.edit_steps.specs.Ranges.{IsOpening}
use Rattle.generator.specs.Script.{gen_opening, opening_items}
use Rattle.generator.proofs.StepLemmas.{IsOpening-gen, unless_ok, not_err}
use Rattle.generator.proofs.opening.history_of.Goals as goal

made_of : (items : List Item) (order : List Slot) → items ≡ opening_items → order ≡ start_slots → stack items 2 order ≡ gen_opening
made_of items order e f = ap (λ (xs : List Item). stack xs 2 order) e ∙ ap (λ (xs : List Slot). stack opening_items 2 xs) f

pub unreachable-requires : goal.unreachable-requires
unreachable-requires c =
    let e = made_of c.args.items.items c.args.order c.requires.items c.requires.order in
    not_err c.in_default.field-0 c.of.result c.in_default.is (c.of.ensures.allowed.1 (subst IsHistory (sym e) IsOpening-gen.history))

pub returns-clause-opening : goal.returns-clause-opening
returns-clause-opening c =
    let h = stack c.args.items.items 2 c.args.order in
    unless_ok (stack_fault h) h c.in-Ok.history (sym c.of.ensures.value ∙ c.in-Ok.is) ∙ made_of c.args.items.items c.args.order c.requires.items c.requires.order

pub returns-clause-within : goal.returns-clause-within
returns-clause-within c =
    let h = stack c.args.items.items 2 c.args.order in
    let e = unless_ok (stack_fault h) h c.in-Ok.history (sym c.of.ensures.value ∙ c.in-Ok.is) ∙ made_of c.args.items.items c.args.order c.requires.items c.requires.order in
    subst IsOpening (sym e) IsOpening-gen
