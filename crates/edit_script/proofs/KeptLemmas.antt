-- Items that are kept have no value outside its range.
use Rattle.std.proofs.Common.{ℕ, List, [], ◌∷◌, Option, Some, None, option_map, Result, Ok, Err, IfSome, IfOk, codes, arith, suc, zero}
use Rattle.std.specs.List.{All}
use Rattle.serde_json.specs.Data.{Data, Items, no_items, item}
use Rattle.params.specs.declared.fault.ParamFault.{ParamFault}
use Rattle.params.specs.Form.{has_only, natural_at, items_at, ◌>>=◌}
use Rattle.module_order.specs.declared.slots.Slot.{Slot}
use Rattle.history.specs.declared.items.Item.{Item}
use Rattle.edit_script.specs.Binds.{result_and_then}
use Rattle.edit_script.specs.Item.{item_keys, item_at_keys, item_form}
use Rattle.edit_script.specs.Opening.{Stated, items_form, all_kept, kept_items, slots_form, history_form}
use Rattle.edit_script.proofs.RangeLemmas.{only_some}
use Rattle.edit_script.proofs.StepLemmas.{IsItem, IsRead, item_keys_within}

abbrev pub IsKept : Result (List Item) ParamFault → Type 0
IsKept r = IfOk r (All IsItem)

first_kept : (x : Item) (xs : List Item) → IsItem x → All IsItem xs → All IsItem (x ∷ xs)
first_kept x xs h all zero d k = h
first_kept x xs h all (suc i) d k = all i d (omega (arith, k))

one_kept : (one : Result Item ParamFault) (rest : Result (List Item) ParamFault) → IsRead one → IsKept rest → IsKept (result_and_then (λ i. result_and_then (λ is. Ok (i ∷ is)) rest) one)
one_kept (Err f) rest h k = tt
one_kept (Ok i) (Err f) h k = tt
one_kept (Ok i) (Ok is) h k = first_kept i is h k

more_kept : (o : Option (Result Item ParamFault)) (rest : Option (List (Result Item ParamFault))) → IfSome o IsRead → IfSome (option_map all_kept rest) IsKept
    → IfSome (option_map all_kept (o >>= λ one. option_map (λ more. one ∷ more) rest)) IsKept
more_kept None rest h k = tt
more_kept (Some one) None h k = tt
more_kept (Some one) (Some more) h k = one_kept one (all_kept more) h k

item_read : (d : Data) → IfSome (item_form d) IsRead
item_read d = only_some IsRead (has_only item_keys d) (item_at_keys d) (item_keys_within d)

kept_within : (ds : Items) → IfSome (kept_items ds) IsKept
kept_within no_items = λ k d h. absurd (omega (arith, h))
kept_within (item d ds) = more_kept (item_form d) (items_form ds) (item_read d) (kept_within ds)

-- the items of a stated history, if no number of them is outside its range
abbrev pub HasKept : Stated → Type 0
HasKept s = IsKept s.items

order_kept : (items : Result (List Item) ParamFault) (end : ℕ) (order : Option (List Slot)) → IsKept items → IfSome (order >>= λ order. Some (record { items = items; end = end; order = order })) HasKept
order_kept items end None h = tt
order_kept items end (Some order) h = h

stated_kept : (items : Option (Result (List Item) ParamFault)) (end : Option ℕ) (pairs : Option Items) → IfSome items IsKept
    → IfSome (items >>= λ items. end >>= λ end. pairs >>= λ pairs. slots_form pairs >>= λ order. Some (record { items = items; end = end; order = order })) HasKept
stated_kept None end pairs h = tt
stated_kept (Some items) None pairs h = tt
stated_kept (Some items) (Some end) None h = tt
stated_kept (Some items) (Some end) (Some pairs) h = order_kept items end (slots_form pairs) h

values_kept : (values : Option Items) (end : Option ℕ) (pairs : Option Items)
    → IfSome (values >>= λ values. kept_items values >>= λ items. end >>= λ end. pairs >>= λ pairs. slots_form pairs >>= λ order. Some (record { items = items; end = end; order = order })) HasKept
values_kept None end pairs = tt
values_kept (Some values) end pairs = stated_kept (kept_items values) end pairs (kept_within values)

pub history_kept : (d : Data) → IfSome (history_form d) HasKept
unfolding history_form
history_kept d =
    only_some HasKept (has_only (codes "items" ∷ codes "end" ∷ codes "order" ∷ []) d) _
    (values_kept (items_at (codes "items") d) (natural_at (codes "end") 0 65535 d) (items_at (codes "order") d))
