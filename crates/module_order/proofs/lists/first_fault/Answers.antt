use Rattle.std.proofs.Common.{◌∙◌, sym}
use Rattle.module_order.proofs.FaultLemmas.{PassesUpTo-more, first_fault-none, first_fault-at, fault_at-by}
use Rattle.module_order.proofs.lists.first_fault.Goals as goal

pub returns-in-Some : goal.returns-in-Some
returns-in-Some c =
    sym (first_fault-at c.args.slots.now c.loop-i.i c.in-Some.fault c.loop-i.auto.i c.loop-i-test.true c.loop-i.invariant
    (fault_at-by c.args.slots.now c.loop-i.i _ _ c.loop-i-test.true c.slot_fault.ensures ∙ c.in-Some.is))

pub loop-i-preserved : goal.loop-i-preserved
loop-i-preserved c =
    PassesUpTo-more c.args.slots.now c.loop-i.i c.loop-i.invariant
    (fault_at-by c.args.slots.now c.loop-i.i _ _ c.loop-i-test.true c.slot_fault.ensures ∙ c.in_default.is)

pub returns : goal.returns
returns c = sym (first_fault-none c.args.slots.now c.loop-i.i c.loop-i-test.false c.loop-i.invariant)
