-- Lemmas on histories: what each edit keeps.
use Rattle.std.proofs.Common.{◌≡◌, ℕ, ◌-◌, ◌≤◌, Bool, true, false, not, cond, ◌||◌, List, [], ◌∷◌, ◌++◌, length, get_or, take, drop, refl, sym, ap, ◌∙◌, subst, arith, Option, Some, None}
use Rattle.std.specs.List.{All, filter, count_by, insert, filter_map, cons_option}
use Rattle.std.specs.Prelude.{slice_get, ⊤, Result, Ok, Err, option_map}
use Rattle.module_order.specs.Faults.{find_map}
use Rattle.std.proofs.lemmas.List.{take-append-drop, length-append, length-take-le}
use Rattle.std.proofs.lemmas.List.Elements.{All-take, All-push, All-filter, All-same, All-weaker, All-cons, All-nil, All-head, All-tail, filter-append, filter_passes}
use Rattle.std.proofs.lemmas.List.Filters.{length-filter_both}
use Rattle.std.proofs.lemmas.List.Sums.{length-filter}
use Rattle.params.specs.declared.fault.ParamFault.{ParamFault}
use Rattle.params.specs.Ranges.{module_of, check_of, check_blend_of}
use Rattle.module_order.specs.declared.slots.Slot.{Slot}
use Rattle.module_order.specs.Slot.{is_slot, has_slot, without}
use Rattle.module_order.proofs.SlotLemmas.{slot_is, is_slot-own, has_slot-insert, has_slot-without}
use Rattle.history.specs.declared.items.Item.{Item}
use Rattle.history.specs.declared.fault.EditFault.{EditFault}
use Rattle.history.specs.declared.fault.EditFault.TheVariants.{FixedModule, NoInstance, BadParams}
use Rattle.history.specs.Item.{slot_of, is_of, last_items, without_items}
use Rattle.history.specs.Stack.{Stack, stack}
use Rattle.history.specs.Faults.{item_fault, is_demosaic, end_fault, stack_fault}
use Rattle.std.specs.Option.{option_or}
use Rattle.std.specs.Result.{result_err}
use Rattle.std.proofs.lemmas.Bool.Decides.{nat_tests}
use Rattle.history.specs.History.{IsHistory}
use Rattle.history.proofs.ItemLemmas.{All-last_items, or_true}

-- the item has no fault
abbrev pub Stands : List Slot → Item → Type 0
Stands order item = item_fault order item ≡ None

known_from : (fixed known : Bool) (values : Option EditFault) → cond fixed (Some FixedModule) (cond (not known) (Some NoInstance) values) ≡ None → known ≡ true
known_from true known values h = cc
known_from false true values h = refl
known_from false false values h = cc

-- an item without a fault is of an instance in the order
pub has_slot-Stands : (order : List Slot) (item : Item) → Stands order item → has_slot order (slot_of item) ≡ true
has_slot-Stands order item h = known_from (is_demosaic (module_of item.params)) (has_slot order (slot_of item)) _ h

values_from : (fixed known : Bool) (values : Option EditFault) → cond fixed (Some FixedModule) (cond (not known) (Some NoInstance) values) ≡ None → values ≡ None
values_from true known values h = cc
values_from false true values h = h
values_from false false values h = cc

checks_from : (params blend : Result ⊤ ParamFault) → option_map BadParams (option_or (result_err params) (result_err blend)) ≡ None → (params ≡ Ok tt) × (blend ≡ Ok tt)
checks_from (Ok a) (Ok b) h = (refl, refl)
checks_from (Ok a) (Err e) h = cc
checks_from (Err e) blend h = cc

-- the parameters and the blend of an item without a fault are within their ranges
pub check-Stands : (order : List Slot) (item : Item) → Stands order item → (check_of item.params ≡ Ok tt) × (check_blend_of (module_of item.params) item.blend ≡ Ok tt)
check-Stands order item h =
    checks_from (check_of item.params) (check_blend_of (module_of item.params) item.blend) (values_from (is_demosaic (module_of item.params)) (has_slot order (slot_of item)) _ h)

-- an item stands in each order that has its instance
pub Stands-kept : (old new : List Slot) (item : Item) → has_slot new (slot_of item) ≡ true → Stands old item → Stands new item
Stands-kept old new item known stands = rw known (rw (has_slot-Stands old item stands) at stands)

pub IsHistory-put : (items new : List Item) (end kept n : ℕ) (order : List Slot) (item : Item) → IsHistory (stack items end order) → Stands order item → new ≡ take kept items ++ item ∷ [] → n ≤ length new → IsHistory (stack new n order)
IsHistory-put items new end kept n order item history stands e within =
    record {
      items = All-same (Stands order) new (take kept items ++ item ∷ []) e (All-push (Stands order) (take kept items) item (All-take (Stands order) kept items history.items) stands);
      end = within;
    }

pub IsHistory-compressed : (items new : List Item) (end n : ℕ) (order : List Slot) → IsHistory (stack items end order) → new ≡ last_items (take end items) → n ≡ length new → IsHistory (stack new n order)
IsHistory-compressed items new end n order history e whole =
    record {
      items = All-same (Stands order) new (last_items (take end items)) e (All-last_items (Stands order) (take end items) (All-take (Stands order) end items history.items));
      end = omega arith;
    }

-- an instance of the order stands in it after another was put in
known-inserted : (order : List Slot) (place : ℕ) (s t : Slot) → has_slot order t ≡ true → has_slot (insert order place s) t ≡ true
known-inserted order place s t known = has_slot-insert order place s t ∙ ap (λ b. is_slot t s || b) known ∙ or_true (is_slot t s)

known-moved : (order : List Slot) (place : ℕ) (s t : Slot) → has_slot order t ≡ true → has_slot (insert (without order s) place s) t ≡ true
known-moved order place s t known =
    elim (is_slot s t) as (λ b. is_slot s t ≡ b → has_slot (insert (without order s) place s) t ≡ true) [
      | true ↦ λ same.
          has_slot-insert (without order s) place s t
          ∙ ap (λ b. b || has_slot (without order s) t) (subst (λ u. is_slot u s ≡ true) (sym (slot_is s t same)) (is_slot-own s))
      | false ↦ λ other. known-inserted (without order s) place s t (has_slot-without order s t other ∙ known)
    ] refl

-- items that stand in an order stand in each that has its slots
All-kept : (old new : List Slot) (items : List Item) → ((t : Slot) → has_slot old t ≡ true → has_slot new t ≡ true) → All (Stands old) items → All (Stands new) items
All-kept old new items known = All-weaker (Stands old) (Stands new) (λ item stands. Stands-kept old new item (known (slot_of item) (has_slot-Stands old item stands)) stands) items

pub IsHistory-inserted : (items : List Item) (end : ℕ) (order new : List Slot) (s : Slot) (place : ℕ) → IsHistory (stack items end order) → new ≡ insert order place s → IsHistory (stack items end new)
IsHistory-inserted items end order new s place history e =
    record {
      items = All-kept order new items (λ t known. ap (λ slots. has_slot slots t) e ∙ known-inserted order place s t known) history.items;
      end = history.end;
    }

pub IsHistory-moved : (items : List Item) (end : ℕ) (order new : List Slot) (s : Slot) (place : ℕ) → IsHistory (stack items end order) → new ≡ insert (without order s) place s → IsHistory (stack items end new)
IsHistory-moved items end order new s place history e =
    record {
      items = All-kept order new items (λ t known. ap (λ slots. has_slot slots t) e ∙ known-moved order place s t known) history.items;
      end = history.end;
    }

not_true : (b : Bool) → not b ≡ true → b ≡ false
not_true true h = sym h
not_true false h = refl

pub IsHistory-deleted : (items new : List Item) (end n : ℕ) (order new_order : List Slot) (s : Slot) → IsHistory (stack items end order) → new ≡ without_items items s → n ≡ end - count_by (is_of s) (take end items) → new_order ≡ without order s → IsHistory (stack new n new_order)
IsHistory-deleted items new end n order new_order s history e falls out =
    let is = is_of s in
    let is_not = λ (item : Item). not (is_of s item) in
    let front = take end items in
    let others : All (λ item. is_not item ≡ true) (filter is_not items) = filter_passes is_not items in
    let stand : All (Stands order) (filter is_not items) = All-filter is_not (Stands order) items history.items in
    let both = length-filter_both is is_not (λ _. refl) front in
    let whole = ap (λ xs. length (filter is_not xs)) (take-append-drop end items) in
    let halves = ap length (filter-append is_not front (drop end items)) in
    record {
      items = All-same (Stands new_order) new (filter is_not items) e (λ k d l.
          let item = get_or (filter is_not items) k d in
          let known : has_slot new_order (slot_of item) ≡ true =
          ap (λ slots. has_slot slots (slot_of item)) out ∙ has_slot-without order s (slot_of item) (not_true (is_of s item) (others k d l)) ∙ has_slot-Stands order item (stand k d l) in
          Stands-kept order new_order item known (stand k d l));
      end = omega (arith, both, whole, halves, length-filter is front, length-append (filter is_not front) (filter is_not (drop end items)), ap length e, length-take-le end items history.end);
    }

-- a list without a first fault has none
pub All-find_map : {X Y : Type 0} (f : X → Option Y) (xs : List X) → find_map f xs ≡ None → All (λ x. f x ≡ None) xs
All-find_map f [] none = All-nil (λ x. f x ≡ None)
All-find_map {X} {Y} f (x ∷ xs) none =
    (elim (f x) as (λ o. f x ≡ o → slice_get (cons_option o (filter_map f xs)) 0 ≡ None → All (λ y. f y ≡ None) (x ∷ xs)) [
      | None ↦ λ here rest. All-cons (λ y. f y ≡ None) x xs here (All-find_map f xs rest)
      | Some y ↦ λ here found. cc
    ]) refl none

pub within_from : (items : List Item) (end : ℕ) → end_fault items end ≡ None → end ≤ length items
within_from items end none = grind (arith, nat_tests)

-- an item stands as its copy does
pub Stands-copy : (seen : Stack) (order : List Slot) (item copy : Item) → order ≡ seen.order → copy ≡ item → Stands seen.order item → Stands order copy
Stands-copy seen order item copy same copied stands =
    subst (λ i. Stands order i) (sym copied) (subst (λ slots. Stands slots item) (sym same) stands)

pub find_map-All : {X Y : Type 0} (f : X → Option Y) (xs : List X) → All (λ x. f x ≡ None) xs → find_map f xs ≡ None
find_map-All f [] all = refl
find_map-All f (x ∷ xs) all = rw (All-head (λ y. f y ≡ None) x xs all) (find_map-All f xs (All-tail (λ y. f y ≡ None) x xs all))

-- a history has no fault, and what has none is a history
pub IsHistory-fault : (h : Stack) → stack_fault h ≡ None → IsHistory h
IsHistory-fault h none =
    let faults = find_map (item_fault h.order) h.items in
    let first : faults ≡ None = (elim faults as (λ o. option_or o (end_fault h.items h.end) ≡ None → o ≡ None) [ None ↦ λ _. refl | Some f ↦ λ e. cc ]) none in
    let last : end_fault h.items h.end ≡ None = rw first at none in
    record { items = All-find_map (item_fault h.order) h.items first; end = within_from h.items h.end last }

pub stack_fault-none : (h : Stack) → IsHistory h → stack_fault h ≡ None
stack_fault-none h history =
    let last : end_fault h.items h.end ≡ None = let within : h.end ≤ length h.items = history.end in grind (arith, nat_tests) in
    rw (find_map-All (item_fault h.order) h.items history.items) last
