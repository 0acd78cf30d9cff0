-- Items of a history, and lists of them.
use Rattle.std.specs.Prelude.{◌-◌, Bool, not, if◌then◌else◌, List, [], ◌∷◌, length, slice_get, Option}
use Rattle.std.specs.List.{filter, list_any}
use Rattle.params.specs.Names.{number_of}
use Rattle.params.specs.Ranges.{module_of}
use Rattle.module_order.specs.declared.slots.Slot.{Slot}
use Rattle.module_order.specs.Slot.{slot, is_slot}
use Rattle.history.specs.declared.items.Item.{Item}

-- the slot of the item's instance
abbrev pub slot_of : Item → Slot
slot_of item = slot (number_of (module_of item.params)) item.instance

-- whether the item is of the instance at the slot
abbrev pub is_of : Slot → Item → Bool
is_of s item = is_slot s (slot_of item)

-- whether an item of the instance is among them
abbrev pub has_item : List Item → Slot → Bool
has_item items s = list_any (is_of s) items

-- the items without those of the instance
abbrev pub without_items : List Item → Slot → List Item
without_items items s = filter (λ item. not (is_of s item)) items

-- each instance's last item, in the order of those last items: an item stays where none after it is of its instance
abbrev pub last_items : List Item → List Item
last_items [] = []
last_items (item ∷ items) = if has_item items (slot_of item) then last_items items else item ∷ last_items items

-- the item that was set last
abbrev pub top_item : List Item → Option Item
top_item items = slice_get items (length items - 1)
