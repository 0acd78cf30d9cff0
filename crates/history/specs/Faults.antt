-- Why an edit is refused, and why items, an end and an order are no history: the first fault, in the order of the tests.
use Rattle.std.specs.Prelude.{ℕ, Bool, true, false, not, nat_lt, if◌then◌else◌, List, length, Option, Some, None, option_map}
use Rattle.std.specs.Option.{option_or}
use Rattle.std.specs.Result.{result_err}
use Rattle.params.specs.declared.fault.ParamFault.{ParamFault}
use Rattle.params.specs.declared.modules.Module.{Module}
use Rattle.params.specs.declared.modules.Module.TheVariants as modules
use Rattle.params.specs.Names.{number_of}
use Rattle.params.specs.Ranges.{module_of, check_of, check_blend_of}
use Rattle.module_order.specs.declared.slots.Slot.{Slot}
use Rattle.module_order.specs.declared.fault.OrderFault.{OrderFault}
use Rattle.module_order.specs.declared.fault.OrderFault.TheVariants as order_faults
use Rattle.module_order.specs.Slot.{slot, has_slot}
use Rattle.module_order.specs.Faults.{find_map, insert_fault, remove_fault, move_fault}
use Rattle.history.specs.declared.items.Item.{Item}
use Rattle.history.specs.declared.edits.Edit.{Edit}
use Rattle.history.specs.declared.edits.Edit.TheVariants as edits
use Rattle.history.specs.declared.fault.EditFault.{EditFault}
use Rattle.history.specs.declared.fault.EditFault.TheVariants.{FixedModule, NoInstance, BadParams, EndPast, InstanceTaken, TooManyInstances, OrderRule}
use Rattle.history.specs.Item.{slot_of}
use Rattle.history.specs.Stack.{Stack}

abbrev pub is_demosaic : Module → Bool
is_demosaic modules.Demosaic = true
is_demosaic _ = false

-- the first number out of its range: of the parameters, then of the blend
abbrev pub values_fault : Item → Option ParamFault
values_fault item = option_or (result_err (check_of item.params)) (result_err (check_blend_of (module_of item.params) item.blend))

-- why an item can't stand in a history of this order
abbrev pub item_fault : List Slot → Item → Option EditFault
item_fault order item =
    if is_demosaic (module_of item.params) then Some FixedModule
    else (if not (has_slot order (slot_of item)) then Some NoInstance
    else option_map BadParams (values_fault item))

-- why so many of the items can't count
abbrev pub end_fault : List Item → ℕ → Option EditFault
end_fault items end = if nat_lt (length items) end then Some EndPast else None

-- why items, an end and an order are no history: the items' first fault from left to right, then the end's
abbrev pub stack_fault : Stack → Option EditFault
stack_fault h = option_or (find_map (item_fault h.order) h.items) (end_fault h.items h.end)

-- a fault of the order, as an edit's
abbrev pub of_order : OrderFault → EditFault
of_order order_faults.Full = TooManyInstances
of_order order_faults.Rule = OrderRule
of_order order_faults.Fixed = FixedModule
of_order order_faults.Taken = InstanceTaken
of_order order_faults.Missing = NoInstance

-- why the edit isn't allowed on the history
abbrev pub edit_fault : Stack → Edit → Option EditFault
edit_fault h (edits.Set item) = item_fault h.order item
edit_fault h (edits.Select end) = end_fault h.items end
edit_fault h edits.Compress = None
edit_fault h (edits.Add m instance place) = option_map of_order (insert_fault h.order (slot (number_of m) instance) place)
edit_fault h (edits.Delete m instance) = option_map of_order (remove_fault h.order (slot (number_of m) instance))
edit_fault h (edits.Move m instance place) = option_map of_order (move_fault h.order (slot (number_of m) instance) place)
