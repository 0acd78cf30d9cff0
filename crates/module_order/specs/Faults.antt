-- What is wrong with a list of slots, or with a change of an order: the first fault, in the order of the tests.
use Rattle.std.specs.Prelude.{ℕ, ◌-◌, ◌||◌, not, nat_lt, nat_le, if◌then◌else◌, List, length, take, slice_get, Option, Some, None, option_and_then, Result, Ok, Err}
use Rattle.std.specs.List.{filter_map, range_with_len, starts_with}
use Rattle.module_order.specs.declared.slots.Slot.{Slot}
use Rattle.module_order.specs.declared.fault.OrderFault.{OrderFault}
use Rattle.module_order.specs.declared.fault.OrderFault.TheVariants.{Full, Rule, Fixed, Taken, Missing}
use Rattle.module_order.specs.Slot.{fixed_slots, is_fixed, is_slot, has_slot}

-- the first answer of f along the list
abbrev pub find_map : {X Y : Type 0} → (X → Option Y) → List X → Option Y
find_map f xs = slice_get (filter_map f xs) 0

-- the value, unless there is a fault
abbrev pub unless : {X E : Type 0} → Option E → X → Result X E
unless None x = Ok x
unless (Some fault) x = Err fault

-- the fault of a slot behind the slots before it
abbrev pub slot_fault : List Slot → Slot → Option OrderFault
slot_fault before s = if is_fixed s then Some Fixed else (if has_slot before s then Some Taken else None)

-- the fault at a place of a list
abbrev pub fault_at : List Slot → ℕ → Option OrderFault
fault_at slots k = option_and_then (slot_fault (take k slots)) (slice_get slots k)

-- the first fault from left to right, at the places behind the fixed slots
abbrev pub first_fault : List Slot → Option OrderFault
first_fault slots = find_map (fault_at slots) (range_with_len 3 (length slots - 3))

-- why a list is no order
abbrev pub order_fault : List Slot → Option OrderFault
order_fault slots =
    if nat_lt 64 (length slots) then Some Full
    else (if not (starts_with is_slot slots fixed_slots) then Some Rule else first_fault slots)

-- why a slot can't be put in at a place
abbrev pub insert_fault : List Slot → Slot → ℕ → Option OrderFault
insert_fault slots s place =
    if is_fixed s then Some Fixed
    else (if has_slot slots s then Some Taken
    else (if nat_le 64 (length slots) then Some Full
    else (if nat_lt place 3 || nat_lt (length slots) place then Some Rule else None)))

-- why a slot can't be taken out
abbrev pub remove_fault : List Slot → Slot → Option OrderFault
remove_fault slots s =
    if is_fixed s then Some Fixed else (if not (has_slot slots s) then Some Missing else None)

-- why a slot can't be moved to a place
abbrev pub move_fault : List Slot → Slot → ℕ → Option OrderFault
move_fault slots s place =
    if is_fixed s then Some Fixed
    else (if not (has_slot slots s) then Some Missing
    else (if nat_lt place 3 || nat_le (length slots) place then Some Rule else None))
