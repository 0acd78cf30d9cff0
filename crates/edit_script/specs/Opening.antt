-- The form of an opening history: items, an end and an order.
use Rattle.std.specs.Prelude.{ℕ, List, [], ◌∷◌, ◌++◌, Option, Some, option_map, Result, Ok, codes}
use Rattle.serde_json.specs.Data.{Data, Items, no_items, item}
use Rattle.serde_json.specs.Find.{as_str}
use Rattle.params.specs.declared.fault.ParamFault.{ParamFault}
use Rattle.params.specs.Form.{natural, natural_at, items_at, pair, ◌>>=◌}
use Rattle.params.specs.Names.{module_named, number_of}
use Rattle.module_order.specs.declared.slots.Slot.{Slot}
use Rattle.module_order.specs.Slot.{slot}
use Rattle.history.specs.declared.items.Item.{Item}
use Rattle.edit_script.specs.Binds.{result_and_then}
use Rattle.edit_script.specs.Parts.{if_only}
use Rattle.edit_script.specs.Item.{item_form}

-- each value of a list by a form
abbrev pub items_form : Items → Option (List (Result Item ParamFault))
items_form no_items = Some []
items_form (item d ds) = item_form d >>= λ one. option_map (λ more. one ∷ more) (items_form ds)

-- a pair of a module's name and an instance
unfoldable pub slot_form : Data → Option Slot
slot_form d = do
  both ← pair d
  name ← as_str both.0
  m ← module_named name
  instance ← natural 0 255 both.1
  Some (slot (number_of m) instance)

abbrev pub slots_form : Items → Option (List Slot)
slots_form no_items = Some []
slots_form (item d ds) = slot_form d >>= λ one. option_map (λ more. one ∷ more) (slots_form ds)

-- the items, or the first number that is outside its range
abbrev pub all_kept : List (Result Item ParamFault) → Result (List Item) ParamFault
all_kept [] = Ok []
all_kept (one ∷ more) = result_and_then (λ i. result_and_then (λ is. Ok (i ∷ is)) (all_kept more)) one

-- one more item behind those that are kept, unless there is a fault
abbrev pub with_item : {T : Type 0} → Result (List T) ParamFault → Result T ParamFault → Result (List T) ParamFault
with_item kept one = result_and_then (λ is. result_and_then (λ i. Ok (is ++ i ∷ [])) one) kept

-- every value has the form of an item; then the numbers of each
abbrev pub kept_items : Items → Option (Result (List Item) ParamFault)
kept_items values = option_map all_kept (items_form values)

-- a history as it is stated: its items or the first number of them that is outside its range, its end and its order
pub record Stated : Type 0 where
  pub items : Result (List Item) ParamFault
  pub end : ℕ
  pub order : List Slot

unfoldable pub history_form : Data → Option Stated
history_form d = if_only (codes "items" ∷ codes "end" ∷ codes "order" ∷ []) d (do
  values ← items_at (codes "items") d
  items ← kept_items values
  end ← natural_at (codes "end") 0 65535 d
  pairs ← items_at (codes "order") d
  order ← slots_form pairs
  Some (record { items = items; end = end; order = order }))
