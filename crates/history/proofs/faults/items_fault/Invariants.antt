use Rattle.std.proofs.Common.{◌≡◌, drop}
use Rattle.module_order.specs.Faults.{find_map}
use Rattle.history.specs.Faults.{item_fault}
use Rattle.history.proofs.faults.items_fault.Given as goal

-- the first fault is among the items that are left
abbrev pub invariant-loop-item : goal.invariant-loop-item
invariant-loop-item l = find_map (item_fault l.order) (drop l.item-index l.items) ≡ find_map (item_fault l.order) l.items
