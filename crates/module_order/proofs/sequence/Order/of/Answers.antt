use Rattle.std.proofs.Common.{◌≡◌, None, refl, sym, ap, ◌∙◌}
use Rattle.module_order.specs.Faults.{order_fault}
use Rattle.module_order.proofs.FaultLemmas.{IsOrder-fault, order_fault-none}
use Rattle.module_order.proofs.sequence.Order.of.Goals as goal

pub invariant_of-result : goal.invariant_of-result
invariant_of-result c =
    let none : order_fault c.args.slots.items ≡ None = sym (ap order_fault c.deref.ensures.value) ∙ sym c.order_fault.ensures ∙ c.in-None.is in
    IsOrder-fault c.args.slots.items none

pub returns-in-Some-clause-allowed : goal.returns-in-Some-clause-allowed
returns-in-Some-clause-allowed c = (
  λ e. cc,
  λ order.
      let none = order_fault-none c.args.slots.items order in
      let found = ap order_fault c.deref.ensures.value in
      cc,
)

pub returns-in-None-clause-allowed : goal.returns-in-None-clause-allowed
returns-in-None-clause-allowed c =
    let none : order_fault c.args.slots.items ≡ None = sym (ap order_fault c.deref.ensures.value) ∙ sym c.order_fault.ensures ∙ c.in-None.is in
    (λ _. IsOrder-fault c.args.slots.items none, λ _. refl)
