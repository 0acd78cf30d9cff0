-- What is active in a history.
use Rattle.std.specs.Prelude.{if◌then◌else◌, List, Option, Some, None, option_and_then}
use Rattle.std.specs.List.{filter, filter_map}
use Rattle.params.specs.declared.settings.Params.TheVariants.{Demosaic}
use Rattle.params.specs.declared.modules.Module.TheVariants as modules
use Rattle.params.specs.Names.{number_of}
use Rattle.module_order.specs.declared.slots.Slot.{Slot}
use Rattle.module_order.specs.Slot.{slot, is_slot}
use Rattle.history.specs.declared.items.Item.{Item}
use Rattle.history.specs.Item.{is_of, top_item}
use Rattle.history.specs.Stack.{Stack}
use Rattle.history.specs.After.{live_items}
use Rattle.pipe_nodes.specs.declared.active.Active.{Active}

-- demosaic, which takes no item
abbrev pub demosaic : Active
demosaic = record { instance = 0; params = Demosaic; blend = None }

-- the item that was set last of those of the instance
abbrev pub last_of : Slot → List Item → Option Item
last_of s items = top_item (filter (is_of s) items)

-- the item's values, where it is enabled
abbrev pub active_of : Item → Option Active
active_of item = if item.enabled then Some (record { instance = item.instance; params = item.params; blend = item.blend }) else None

-- demosaic has one instance
abbrev pub demosaic_slot : Slot
demosaic_slot = slot (number_of modules.Demosaic) 0

-- what is active of the instance, by the items that count: an instance without an item is disabled, and demosaic is always active
abbrev pub active_at : List Item → Slot → Option Active
active_at items s = if is_slot demosaic_slot s then Some demosaic else option_and_then active_of (last_of s items)

-- what is active in a history, along the order of its instances
abbrev pub actives_of : Stack → List Active
actives_of h = filter_map (active_at (live_items h)) h.order
