-- The slots of a history that has the form are of modules.
use Rattle.std.proofs.Common.{ℕ, ◌≤◌, List, [], ◌∷◌, Option, Some, None, option_map, Result, IfSome, codes, suc, zero, arith}
use Rattle.std.specs.List.{All}
use Rattle.serde_json.specs.Data.{Data, Items, no_items, item}
use Rattle.params.specs.declared.modules.Module.{Module}
use Rattle.params.specs.Names.{number_of, last_number}
use Rattle.module_order.specs.declared.slots.Slot.{Slot}
use Rattle.module_order.specs.Slot.{slot}
use Rattle.history.specs.declared.items.Item.{Item}
use Rattle.params.specs.Form.{has_only, natural, natural_at, items_at, pair, ◌>>=◌}
use Rattle.params.specs.Names.{module_named}
use Rattle.params.proofs.NameLemmas.{number_few}
use Rattle.params.specs.declared.fault.ParamFault.{ParamFault}
use Rattle.serde_json.specs.Find.{as_str}
use Rattle.edit_script.specs.Opening.{Stated, slot_form, slots_form, kept_items, history_form}
use Rattle.edit_script.proofs.RangeLemmas.{only_some}

-- ---- slots

-- the slot is of a module
abbrev pub IsOfModule : Slot → Type 0
IsOfModule s = s.module ≤ last_number

named_few : (m : Option Module) (instance : Option ℕ) → IfSome (m >>= λ m. instance >>= λ i. Some (slot (number_of m) i)) IsOfModule
named_few None instance = tt
named_few (Some m) None = tt
named_few (Some m) (Some i) = number_few m

text_few : (name : Option (List ℕ)) (instance : Option ℕ) → IfSome (name >>= λ name. module_named name >>= λ m. instance >>= λ i. Some (slot (number_of m) i)) IsOfModule
text_few None instance = tt
text_few (Some name) instance = named_few (module_named name) instance

pair_few : (o : Option (Data × Data)) → IfSome (o >>= λ both. as_str both.0 >>= λ name. module_named name >>= λ m. natural 0 255 both.1 >>= λ i. Some (slot (number_of m) i)) IsOfModule
pair_few None = tt
pair_few (Some both) = text_few (as_str both.0) (natural 0 255 both.1)

slot_few : (d : Data) → IfSome (slot_form d) IsOfModule
unfolding slot_form
slot_few d = pair_few (pair d)

all_first : {X : Type 0} (P : X → Type 0) (x : X) (xs : List X) → P x → All P xs → All P (x ∷ xs)
all_first P x xs h all zero d k = h
all_first P x xs h all (suc i) d k = all i d (omega (arith, k))

each_some : {A : Type 0} (P Q : A → Type 0) (o : Option A) → ((x : A) → P x → Q x) → IfSome o P → IfSome o Q
each_some P Q None f h = tt
each_some P Q (Some x) f h = f x h

slots_more : (o : Option Slot) (more : Option (List Slot)) → IfSome o IsOfModule → IfSome more (All IsOfModule) → IfSome (o >>= λ one. option_map (λ more. one ∷ more) more) (All IsOfModule)
slots_more None more h k = tt
slots_more (Some one) None h k = tt
slots_more (Some one) (Some more) h k = all_first IsOfModule one more h k

slots_few : (ds : Items) → IfSome (slots_form ds) (All IsOfModule)
slots_few no_items = λ k d h. absurd (omega (arith, h))
slots_few (item d ds) = slots_more (slot_form d) (slots_form ds) (slot_few d) (slots_few ds)

-- the order of the history is of modules
abbrev pub IsOfModules : Stated → Type 0
IsOfModules s = All IsOfModule s.order

stated_of : (items : Option (Result (List Item) ParamFault)) (end : Option ℕ) (order : Option (List Slot)) → IfSome order (All IsOfModule)
    → IfSome (items >>= λ items. end >>= λ end. order >>= λ order. Some (record { items = items; end = end; order = order })) IsOfModules
stated_of None end order h = tt
stated_of (Some items) None order h = tt
stated_of (Some items) (Some end) None h = tt
stated_of (Some items) (Some end) (Some order) h = h

pairs_of : (items : Option (Result (List Item) ParamFault)) (end : Option ℕ) (pairs : Option Items)
    → IfSome (items >>= λ items. end >>= λ end. pairs >>= λ pairs. slots_form pairs >>= λ order. Some (record { items = items; end = end; order = order })) IsOfModules
pairs_of None end pairs = tt
pairs_of (Some items) None pairs = tt
pairs_of (Some items) (Some end) None = tt
pairs_of (Some items) (Some end) (Some pairs) = stated_of (Some items) (Some end) (slots_form pairs) (slots_few pairs)

values_of : (values : Option Items) (end : Option ℕ) (pairs : Option Items)
    → IfSome (values >>= λ values. kept_items values >>= λ items. end >>= λ end. pairs >>= λ pairs. slots_form pairs >>= λ order. Some (record { items = items; end = end; order = order })) IsOfModules
values_of None end pairs = tt
values_of (Some values) end pairs = pairs_of (kept_items values) end pairs

pub history_few : (d : Data) → IfSome (history_form d) IsOfModules
unfolding history_form
history_few d =
    only_some IsOfModules (has_only (codes "items" ∷ codes "end" ∷ codes "order" ∷ []) d) _
    (values_of (items_at (codes "items") d) (natural_at (codes "end") 0 65535 d) (items_at (codes "order") d))
