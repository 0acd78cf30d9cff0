-- The history after an edit, and the kind of change that the edit makes.
use Rattle.std.specs.Prelude.{ℕ, ◌-◌, Bool, false, if◌then◌else◌, List, [], ◌∷◌, ◌++◌, length, take, count_by}
use Rattle.std.specs.List.{insert}
use Rattle.std.specs.Option.{option_map_or}
use Rattle.params.specs.Names.{number_of}
use Rattle.module_order.specs.declared.slots.Slot.{Slot}
use Rattle.module_order.specs.Slot.{slot, without}
use Rattle.history.specs.declared.items.Item.{Item}
use Rattle.history.specs.declared.edits.Edit.{Edit}
use Rattle.history.specs.declared.edits.Edit.TheVariants as edits
use Rattle.history.specs.declared.changes.Kind.{Kind}
use Rattle.history.specs.declared.changes.Kind.TheVariants.{Top, Synch, Remove}
use Rattle.history.specs.Item.{slot_of, is_of, without_items, last_items, top_item}
use Rattle.history.specs.Stack.{Stack, stack}

-- whether the item takes the place of the top one, which is of the same instance
abbrev pub overwrites : List Item → Item → Bool
overwrites items item = option_map_or (is_of (slot_of item)) (top_item items) false

-- the items with this one on top
abbrev pub with_item : List Item → Item → List Item
with_item items item = if overwrites items item then take (length items - 1) items ++ item ∷ [] else items ++ item ∷ []

-- the items that count
abbrev pub live_items : Stack → List Item
live_items h = take h.end h.items

-- the history of these items, all of which count
abbrev pub with_items : Stack → List Item → Stack
with_items h items = stack items (length items) h.order

abbrev pub after_set : Stack → Item → Stack
after_set h item = with_items h (with_item (live_items h) item)

abbrev pub set_kind : Stack → Item → Kind
set_kind h item = if overwrites (live_items h) item then Top else Synch

abbrev pub after_select : Stack → ℕ → Stack
after_select h end = stack h.items end h.order

abbrev pub after_compress : Stack → Stack
after_compress h = with_items h (last_items (live_items h))

abbrev pub after_add : Stack → Slot → ℕ → Stack
after_add h s place = stack h.items h.end (insert h.order place s)

-- the end falls by the items of the instance that counted
abbrev pub after_delete : Stack → Slot → Stack
after_delete h s = stack (without_items h.items s) (h.end - count_by (is_of s) (live_items h)) (without h.order s)

abbrev pub after_move : Stack → Slot → ℕ → Stack
after_move h s place = stack h.items h.end (insert (without h.order s) place s)

abbrev pub after : Stack → Edit → Stack
after h (edits.Set item) = after_set h item
after h (edits.Select end) = after_select h end
after h edits.Compress = after_compress h
after h (edits.Add m instance place) = after_add h (slot (number_of m) instance) place
after h (edits.Delete m instance) = after_delete h (slot (number_of m) instance)
after h (edits.Move m instance place) = after_move h (slot (number_of m) instance) place

abbrev pub kind_of : Stack → Edit → Kind
kind_of h (edits.Set item) = set_kind h item
kind_of h (edits.Select end) = Synch
kind_of h edits.Compress = Synch
kind_of h (edits.Add m instance place) = Remove
kind_of h (edits.Delete m instance) = Remove
kind_of h (edits.Move m instance place) = Remove
