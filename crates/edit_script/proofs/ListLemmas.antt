-- what is read so far, in front of what the rest gives
use Rattle.std.proofs.Common.{◌≡◌, List, [], ◌∷◌, ◌++◌, Option, Some, None, option_map, Result, Ok, Err, refl, sym, ap, append_assoc, append-nil}
use Rattle.serde_json.specs.Data.{Data, Items, item}
use Rattle.params.specs.declared.fault.ParamFault.{ParamFault}
use Rattle.module_order.specs.declared.slots.Slot.{Slot}
use Rattle.history.specs.declared.items.Item.{Item}
use Rattle.edit_script.specs.Binds.{result_and_then}
use Rattle.edit_script.specs.Item.{item_form}
use Rattle.edit_script.specs.Opening.{items_form, slot_form, slots_form, all_kept, with_item, kept_items}

-- ---- slots

abbrev pub with_slots : List Slot → Option (List Slot) → Option (List Slot)
with_slots front rest = option_map (λ more. front ++ more) rest

pub slots_begin : (rest : Option (List Slot)) → with_slots [] rest ≡ rest
slots_begin None = refl
slots_begin (Some more) = refl

slot_moved : (front : List Slot) (one : Slot) (rest : Option (List Slot)) → with_slots front (option_map (λ more. one ∷ more) rest) ≡ with_slots (front ++ one ∷ []) rest
slot_moved front one None = refl
slot_moved front one (Some more) = ap Some (sym (append_assoc front (one ∷ []) more))

pub slot_read : (front : List Slot) (d : Data) (one : Slot) (rest : Items) → slot_form d ≡ Some one
    → with_slots front (slots_form (item d rest)) ≡ with_slots (front ++ one ∷ []) (slots_form rest)
slot_read front d one rest e = rw e (slot_moved front one (slots_form rest))

pub slot_refused : (front : List Slot) (d : Data) (rest : Items) → slot_form d ≡ None → with_slots front (slots_form (item d rest)) ≡ None
slot_refused front d rest e = rw e refl

-- ---- items

abbrev pub Kept : Type 0
Kept = Result (List Item) ParamFault

abbrev pub joined : Kept → Kept → Kept
joined front rest = result_and_then (λ is. result_and_then (λ more. Ok (is ++ more)) rest) front

abbrev pub with_items : Kept → Option Kept → Option Kept
with_items front rest = option_map (joined front) rest

joined_none : (rest : Kept) → joined (Ok []) rest ≡ rest
joined_none (Ok more) = refl
joined_none (Err f) = refl

pub items_begin : (rest : Option Kept) → with_items (Ok []) rest ≡ rest
items_begin None = refl
items_begin (Some rest) = ap Some (joined_none rest)

joined_moved : (front : Kept) (one : Result Item ParamFault) (rest : Kept)
    → joined front (result_and_then (λ i. result_and_then (λ is. Ok (i ∷ is)) rest) one) ≡ joined (with_item front one) rest
joined_moved (Err f) one rest = refl
joined_moved (Ok is) (Err f) rest = refl
joined_moved (Ok is) (Ok i) (Err f) = refl
joined_moved (Ok is) (Ok i) (Ok more) = ap Ok (sym (append_assoc is (i ∷ []) more))

item_moved : (front : Kept) (one : Result Item ParamFault) (rest : Option (List (Result Item ParamFault)))
    → with_items front (option_map all_kept (option_map (λ more. one ∷ more) rest)) ≡ with_items (with_item front one) (option_map all_kept rest)
item_moved front one None = refl
item_moved front one (Some more) = ap Some (joined_moved front one (all_kept more))

pub item_read : (front : Kept) (d : Data) (one : Result Item ParamFault) (rest : Items) → item_form d ≡ Some one
    → with_items front (kept_items (item d rest)) ≡ with_items (with_item front one) (kept_items rest)
item_read front d one rest e = rw e (item_moved front one (items_form rest))

pub item_refused : (front : Kept) (d : Data) (rest : Items) → item_form d ≡ None → with_items front (kept_items (item d rest)) ≡ None
item_refused front d rest e = rw e refl

pub items_done : (front : Kept) → joined front (Ok []) ≡ front
items_done (Ok is) = ap Ok (append-nil is)
items_done (Err f) = refl
