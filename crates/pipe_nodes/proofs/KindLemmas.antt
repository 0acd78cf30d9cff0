-- Lemmas on the kinds of pictures along a run.
use Rattle.std.proofs.Common.{◌≡◌, ℕ, ◌-◌, ◌<◌, ◌≤◌, true, false, cond, List, [], ◌∷◌, ◌++◌, length, take, drop, refl, sym, ap, ◌∙◌, subst, arith, Option, Some, None}
use Rattle.std.specs.Prelude.{option_and_then, IfSome}
use Rattle.std.specs.List.{All, filter, filter_map, cons_option}
use Rattle.std.proofs.lemmas.List.{take-append-drop, take_all}
use Rattle.std.proofs.lemmas.List.Elements.{filter_passes}
use Rattle.std.proofs.lemmas.Option.{slice_get_within, get_or_from_slice_get}
use Rattle.px.specs.declared.kind.PlaneKind.{PlaneKind}
use Rattle.px.specs.declared.kind.PlaneKind.TheVariants.{Rgb}
use Rattle.params.specs.Names.{number_of}
use Rattle.params.specs.Ranges.{module_of}
use Rattle.params.specs.declared.settings.Params.{Params}
use Rattle.params.specs.declared.settings.Params.TheVariants as params
use Rattle.module_order.specs.declared.slots.Slot.{Slot}
use Rattle.module_order.specs.Slot.{slot, fixed_slots}
use Rattle.module_order.specs.Order.{IsOrder}
use Rattle.module_order.proofs.SlotLemmas.{slot_is}
use Rattle.history.specs.declared.items.Item.{Item}
use Rattle.history.specs.Item.{slot_of, is_of, top_item}
use Rattle.history.specs.Stack.{Stack}
use Rattle.history.specs.After.{live_items}
use Rattle.pipe_nodes.specs.declared.active.Active.{Active}
use Rattle.pipe_nodes.specs.Actives.{last_of, active_of, active_at, actives_of}
use Rattle.pipe_nodes.specs.Kinds.{Takes, kind_after, kind_behind, AllTake, IsRun}

-- every module takes an RGB picture, and makes one of it
takes_rgb : (p : Params) → Takes p Rgb
takes_rgb (params.RawPrepare p) = tt
takes_rgb (params.Temperature p) = tt
takes_rgb params.Demosaic = tt
takes_rgb _ = refl

keeps_rgb : (p : Params) → kind_after Rgb p ≡ Rgb
keeps_rgb params.Demosaic = refl
keeps_rgb _ = refl

pub all_take_rgb : (actives : List Active) → AllTake Rgb actives
all_take_rgb [] = tt
all_take_rgb (a ∷ later) = (takes_rgb a.params, subst (λ k. AllTake k later) (sym (keeps_rgb a.params)) (all_take_rgb later))

pub behind_rgb : (actives : List Active) → kind_behind Rgb actives ≡ Rgb
behind_rgb [] = refl
behind_rgb (a ∷ later) = ap (λ k. kind_behind k later) (keeps_rgb a.params) ∙ behind_rgb later

-- what every instance takes, and leaves of its kind
record IsEarly (a : Active) : Type 0 where
  takes : (k : PlaneKind) → Takes a.params k
  keeps : (k : PlaneKind) → kind_after k a.params ≡ k

-- raw preparation and temperature are the modules of the numbers 0 and 1
early : (a : Active) → number_of (module_of a.params) < 2 → IsEarly a
early a low =
    (elim a.params as (λ p. number_of (module_of p) < 2 → (p ≡ a.params) → IsEarly a) [
      | params.RawPrepare x ↦ λ h e. record { takes = λ k. subst (λ p. Takes p k) e tt; keeps = λ k. sym (ap (kind_after k) e) }
      | params.Temperature x ↦ λ h e. record { takes = λ k. subst (λ p. Takes p k) e tt; keeps = λ k. sym (ap (kind_after k) e) }
      | _ ↦ λ h e. absurd (omega arith)
    ]) low refl

-- the item that was set last of an instance is of it
last_of_is : (s : Slot) (items : List Item) → IfSome (last_of s items) (λ item. is_of s item ≡ true)
last_of_is s items =
    let own = filter (is_of s) items in
    let kept : All (λ item. is_of s item ≡ true) own = filter_passes (is_of s) items in
    (elim (top_item own) as (λ o. top_item own ≡ o → IfSome o (λ item. is_of s item ≡ true)) [
      | None ↦ λ _. tt
      | Some item ↦ λ e. subst (λ i. is_of s i ≡ true) (get_or_from_slice_get own (length own - 1) item item e) (kept (length own - 1) item (slice_get_within own (length own - 1) item e))
    ]) refl

early_enabled : (s : Slot) (item : Item) → s.module < 2 → is_of s item ≡ true → IfSome (active_of item) IsEarly
early_enabled s item low is =
    let number : number_of (module_of item.params) ≡ s.module = ap (λ (t : Slot). t.module) (slot_is s (slot_of item) is) in
    elim item.enabled as (λ b. IfSome (cond b (Some (record { instance = item.instance; params = item.params; blend = item.blend })) None) IsEarly)
    [ true ↦ early (record { instance = item.instance; params = item.params; blend = item.blend }) (omega arith) | false ↦ tt ]

early_behind : (s : Slot) (o : Option Item) → s.module < 2 → IfSome o (λ item. is_of s item ≡ true) → IfSome (option_and_then active_of o) IsEarly
early_behind s None low is = tt
early_behind s (Some item) low is = early_enabled s item low is

put_early : (k : PlaneKind) (o : Option Active) (rest : List Active) → IfSome o IsEarly → IsRun k rest → IsRun k (cons_option o rest)
put_early k None rest is run = run
put_early k (Some a) rest is run =
    record { takes = (is.takes k, subst (λ kind. AllTake kind rest) (sym (is.keeps k)) run.takes); rgb = ap (λ kind. kind_behind kind rest) (is.keeps k) ∙ run.rgb }

-- along an order that begins as every order does
run_along : (k : PlaneKind) (items : List Item) (rest : List Slot) → IsRun k (filter_map (active_at items) (fixed_slots ++ rest))
run_along k items rest =
    put_early k (active_at items (slot 0 0)) _ (early_behind (slot 0 0) (last_of (slot 0 0) items) (omega arith) (last_of_is (slot 0 0) items))
    (put_early k (active_at items (slot 1 0)) _ (early_behind (slot 1 0) (last_of (slot 1 0) items) (omega arith) (last_of_is (slot 1 0) items))
    (record { takes = (tt, all_take_rgb (filter_map (active_at items) rest)); rgb = behind_rgb (filter_map (active_at items) rest) }))

-- what is active in a history is a run from every kind of picture
pub actives-run : (h : Stack) → IsOrder h.order → (k : PlaneKind) → IsRun k (actives_of h)
actives-run h order k =
    let front : fixed_slots ++ drop 3 h.order ≡ h.order = ap (λ slots. slots ++ drop 3 h.order) (sym order.front) ∙ take-append-drop 3 h.order in
    subst (λ slots. IsRun k (filter_map (active_at (live_items h)) slots)) front (run_along k (live_items h) (drop 3 h.order))

-- what was gathered along a whole order is a run
pub gathered-run : (h : Stack) (list : List Active) (items : List Item) (order : List Slot) (end i : ℕ) → IsOrder order → items ≡ h.items → order ≡ h.order → end ≡ h.end → length order ≤ i
    → list ≡ filter_map (active_at (take end items)) (take i order) → (k : PlaneKind) → IsRun k list
gathered-run h list items order end i is_order items_is order_is end_is past gathered k =
    let all : list ≡ actives_of h = gathered ∙ rw (take_all i order past, items_is, order_is, end_is) refl in
    subst (IsRun k) (sym all) (actives-run h (subst IsOrder order_is is_order) k)
