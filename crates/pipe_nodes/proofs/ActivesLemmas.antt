-- Lemmas on what is active in a history.
use Rattle.std.proofs.Common.{◌≡◌, ℕ, ◌+◌, ◌-◌, ◌<◌, ◌≤◌, true, false, cond, List, [], ◌∷◌, ◌++◌, length, get_or, take, refl, sym, ap, ◌∙◌, subst, arith, Option, Some, None}
use Rattle.std.specs.Prelude.{slice_get, option_and_then, IfSome}
use Rattle.std.specs.Option.{option_to_list}
use Rattle.std.specs.List.{All, filter, filter_map, cons_option}
use Rattle.std.proofs.lemmas.List.{append-nil, length_push, take_more, take_all, get_or_push}
use Rattle.std.proofs.lemmas.List.Elements.{All-same, All-weaker, All-cons, All-nil, All-take, All-filter, filter-append, filter_map-append}
use Rattle.std.proofs.lemmas.Option.{slice_get-get_or, slice_get_within, get_or_from_slice_get}
use Rattle.params.specs.Rules.{first_fault}
use Rattle.module_order.specs.declared.slots.Slot.{Slot}
use Rattle.module_order.specs.Slot.{is_slot}
use Rattle.history.specs.declared.items.Item.{Item}
use Rattle.history.specs.Item.{is_of, top_item}
use Rattle.history.specs.Stack.{Stack}
use Rattle.history.specs.History.{IsHistory}
use Rattle.history.specs.After.{live_items}
use Rattle.history.proofs.HistoryLemmas.{Stands, check-Stands}
use Rattle.pipe_nodes.specs.declared.active.Active.{Active}
use Rattle.pipe_nodes.specs.Active.{IsFit}
use Rattle.pipe_nodes.specs.Actives.{demosaic, demosaic_slot, last_of, active_of, active_at, actives_of}

top_item-push : (items : List Item) (item : Item) → top_item (items ++ item ∷ []) ≡ Some item
top_item-push items item =
    let n : length (items ++ item ∷ []) - 1 ≡ length items = omega (arith, length_push items item) in
    ap (slice_get (items ++ item ∷ [])) n ∙ slice_get-get_or (items ++ item ∷ []) (length items) item (omega (arith, length_push items item)) ∙ ap Some (get_or_push items item item (length items) refl)

last_of-push : (s : Slot) (items : List Item) (item : Item) → last_of s (items ++ item ∷ []) ≡ cond (is_of s item) (Some item) (last_of s items)
last_of-push s items item =
    ap top_item (filter-append (is_of s) items (item ∷ []))
    ∙ (elim (is_of s item) as (λ b. top_item (filter (is_of s) items ++ cond b (item ∷ []) []) ≡ cond b (Some item) (last_of s items)) [
      | true ↦ top_item-push (filter (is_of s) items) item
      | false ↦ ap top_item (append-nil (filter (is_of s) items))
    ])

-- one item more, which is the last of its instance
pub last_of-more : (s : Slot) (items : List Item) (i : ℕ) (item : Item) → i < length items → item ≡ get_or items i item
    → last_of s (take (i + 1) items) ≡ cond (is_of s item) (Some item) (last_of s (take i items))
last_of-more s items i item within is =
    ap (last_of s) (take_more items i item within ∙ ap (λ x. take i items ++ x ∷ []) (sym is)) ∙ last_of-push s (take i items) item

-- what holds of all items holds of the last of an instance
All-last_of : (P : Item → Type 0) (s : Slot) (items : List Item) → All P items → IfSome (last_of s items) P
All-last_of P s items all =
    let own = filter (is_of s) items in
    let kept : All P own = All-filter (is_of s) P items all in
    (elim (top_item own) as (λ o. top_item own ≡ o → IfSome o P) [
      | None ↦ λ _. tt
      | Some item ↦ λ e. subst P (get_or_from_slice_get own (length own - 1) item item e) (kept (length own - 1) item (slice_get_within own (length own - 1) item e))
    ]) refl

all_behind : (P : Active → Type 0) (o : Option Item) → IfSome o (λ item. IfSome (active_of item) P) → IfSome (option_and_then active_of o) P
all_behind P None h = tt
all_behind P (Some item) h = h

all_at : (P : Active → Type 0) (items : List Item) (s : Slot) → P demosaic → All (λ item. IfSome (active_of item) P) items → IfSome (active_at items s) P
all_at P items s own all =
    elim (is_slot demosaic_slot s) as (λ b. IfSome (cond b (Some demosaic) (option_and_then active_of (last_of s items))) P)
    [ true ↦ own | false ↦ all_behind P (last_of s items) (All-last_of (λ item. IfSome (active_of item) P) s items all) ]

All-cons_option : (P : Active → Type 0) (o : Option Active) (rest : List Active) → IfSome o P → All P rest → All P (cons_option o rest)
All-cons_option P None rest one all = all
All-cons_option P (Some a) rest one all = All-cons P a rest one all

All-filter_map : (P : Active → Type 0) (f : Slot → Option Active) (slots : List Slot) → ((s : Slot) → IfSome (f s) P) → All P (filter_map f slots)
All-filter_map P f [] each = All-nil P
All-filter_map P f (s ∷ slots) each = All-cons_option P (f s) (filter_map f slots) (each s) (All-filter_map P f slots each)

-- what holds of demosaic, and of each item's values where it is enabled, holds of all that is active
pub actives-all : (P : Active → Type 0) (h : Stack) → P demosaic → All (λ item. IfSome (active_of item) P) h.items → All P (actives_of h)
actives-all P h own all = All-filter_map P (active_at (live_items h)) h.order (λ s. all_at P (live_items h) s own (All-take (λ item. IfSome (active_of item) P) h.end h.items all))

enabled_all : (P : Active → Type 0) (item : Item) → P (record { instance = item.instance; params = item.params; blend = item.blend }) → IfSome (active_of item) P
enabled_all P item h =
    elim item.enabled as (λ b. IfSome (cond b (Some (record { instance = item.instance; params = item.params; blend = item.blend })) None) P)
    [ true ↦ h | false ↦ tt ]

fit_demosaic : IsFit demosaic
unfolding first_fault
fit_demosaic = record { params = refl; blend = refl }

-- what is active in a history is within its ranges
pub actives-fit : (h : Stack) → IsHistory h → All IsFit (actives_of h)
actives-fit h history = actives-all IsFit h fit_demosaic (All-weaker (Stands h.order) (λ item. IfSome (active_of item) IsFit)
    (λ item stands. let checks = check-Stands h.order item stands in enabled_all IsFit item (record { params = checks.0; blend = checks.1 })) h.items history.items)

one_gathered : (o : Option Active) → cons_option o [] ≡ option_to_list o
one_gathered None = refl
one_gathered (Some a) = refl

-- one slot more
pub gathered_more : (items : List Item) (order : List Slot) (i : ℕ) (s : Slot) → slice_get order i ≡ Some s
    → filter_map (active_at items) (take (i + 1) order) ≡ filter_map (active_at items) (take i order) ++ option_to_list (active_at items s)
gathered_more items order i s at =
    let within = slice_get_within order i s at in
    ap (filter_map (active_at items)) (take_more order i s within ∙ ap (λ x. take i order ++ x ∷ []) (get_or_from_slice_get order i s s at))
    ∙ filter_map-append (active_at items) (take i order) (s ∷ [])
    ∙ ap (λ rest. filter_map (active_at items) (take i order) ++ rest) (one_gathered (active_at items s))

-- what was gathered along a whole order is within its ranges
pub gathered-fit : (h : Stack) (list : List Active) (items : List Item) (order : List Slot) (end i : ℕ) → IsHistory h → items ≡ h.items → order ≡ h.order → end ≡ h.end → length order ≤ i
    → list ≡ filter_map (active_at (take end items)) (take i order) → All IsFit list
gathered-fit h list items order end i history items_is order_is end_is past gathered =
    let all : list ≡ actives_of h = gathered ∙ rw (take_all i order past, items_is, order_is, end_is) refl in
    All-same IsFit list (actives_of h) all (actives-fit h history)
