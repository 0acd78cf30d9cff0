use Rattle.std.proofs.Common.{refl, sym, ap, ◌∙◌}
use Rattle.history.specs.Stack.{stack}
use Rattle.history.specs.Faults.{stack_fault}
use Rattle.history.proofs.HistoryLemmas.{IsHistory-fault, stack_fault-none}
use Rattle.history.proofs.stack.History.of.Goals as goal

pub invariant_of-result : goal.invariant_of-result
invariant_of-result c =
    let seen = ap (λ xs. stack_fault (stack xs c.args.end c.args.order)) c.deref.ensures.value in
    IsHistory-fault (stack c.args.items.items c.args.end c.args.order) (sym seen ∙ sym c.stack_fault.ensures ∙ c.in-None.is)

pub returns-in-Some-clause-allowed : goal.returns-in-Some-clause-allowed
returns-in-Some-clause-allowed c =
    let seen = ap (λ xs. stack_fault (stack xs c.args.end c.args.order)) c.deref.ensures.value in (
      λ e. cc,
      λ history.
          let none = stack_fault-none (stack c.args.items.items c.args.end c.args.order) history in
          cc,
    )

pub returns-in-None-clause-allowed : goal.returns-in-None-clause-allowed
returns-in-None-clause-allowed c =
    let seen = ap (λ xs. stack_fault (stack xs c.args.end c.args.order)) c.deref.ensures.value in
    (λ _. IsHistory-fault (stack c.args.items.items c.args.end c.args.order) (sym seen ∙ sym c.stack_fault.ensures ∙ c.in-None.is), λ _. refl)
