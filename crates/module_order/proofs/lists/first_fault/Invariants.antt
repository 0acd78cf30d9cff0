use Rattle.module_order.proofs.FaultLemmas.{PassesUpTo}
use Rattle.module_order.proofs.lists.first_fault.Given as goal

-- no place so far has a fault
abbrev pub invariant-loop-i : goal.invariant-loop-i
invariant-loop-i l = PassesUpTo l.slots l.i
