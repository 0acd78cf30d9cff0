-- Lemmas on the first fault of a list of slots.
use Rattle.std.proofs.Common.{◌≡◌, ℕ, ◌+◌, ◌-◌, ◌<◌, ◌≤◌, true, false, cond, List, [], ◌∷◌, ◌++◌, length, get_or, take, drop, zero, suc, refl, sym, ap, ◌∙◌, subst, arith, Option, Some, None, ⊎_elim}
use Rattle.std.specs.Prelude.{slice_get}
use Rattle.std.specs.List.{filter_map, cons_option, range_with_len, starts_with}
use Rattle.std.proofs.lemmas.Bool.{cases_lt}
use Rattle.std.proofs.lemmas.Bool.Decides.{nat_tests}
use Rattle.std.proofs.lemmas.Option.{slice_get-get_or}
use Rattle.std.proofs.lemmas.List.{take_more, take_all, get_or_default, length-take, get_or-drop, length-drop}
use Rattle.module_order.specs.declared.slots.Slot.{Slot}
use Rattle.module_order.specs.declared.fault.OrderFault.{OrderFault}
use Rattle.module_order.specs.Slot.{slot, is_slot, has_slot, fixed_slots}
use Rattle.module_order.specs.Order.{IsOrder, AreDistinct}
use Rattle.module_order.specs.Faults.{find_map, fault_at, slot_fault, first_fault, order_fault}
use Rattle.module_order.proofs.SlotLemmas.{times, none_from_times, times-append, times-one, times_front, distinct_more, is_slot-own, slot_is}
use lib.Pointwise.{pointwise_decides}

-- the first answer over the numbers from a on
pub find_map-range_some : {Y : Type 0} (f : ℕ → Option Y) (a n i : ℕ) (y : Y) → a ≤ i → i < a + n → ((k : ℕ) → a ≤ k → k < i → f k ≡ None) → f i ≡ Some y → find_map f (range_with_len a n) ≡ Some y
find_map-range_some f a zero i y low high none here = absurd (omega arith)
find_map-range_some f a (suc n) i y low high none here =
    ⊎_elim
    (λ (below : a < i). rw (none a (omega arith) below) (find_map-range_some f (a + 1) n i y (omega arith) (omega arith) (λ k l h. none k (omega arith) h) here))
    (λ (above : i ≤ a). let same : i ≡ a = omega arith in rw (subst (λ k. f k ≡ Some y) same here) refl)
    (cases_lt a i)

pub find_map-range_none : {Y : Type 0} (f : ℕ → Option Y) (a n : ℕ) → ((k : ℕ) → a ≤ k → k < a + n → f k ≡ None) → find_map f (range_with_len a n) ≡ None
find_map-range_none f a zero none = refl
find_map-range_none f a (suc n) none = rw (none a (omega arith) (omega arith)) (find_map-range_none f (a + 1) n (λ k l h. none k (omega arith) (omega arith)))

pub find_map-range_passes : {Y : Type 0} (f : ℕ → Option Y) (a n k : ℕ) → find_map f (range_with_len a n) ≡ None → a ≤ k → k < a + n → f k ≡ None
find_map-range_passes f a zero k none low high = absurd (omega arith)
find_map-range_passes {Y} f a (suc n) k none low high =
    (elim (f a) as (λ o. f a ≡ o → slice_get (cons_option o (filter_map f (range_with_len (a + 1) n))) 0 ≡ None → f k ≡ None) [
      | None ↦ λ here rest. ⊎_elim
          (λ (below : a < k). find_map-range_passes f (a + 1) n k rest (omega arith) (omega arith))
          (λ (above : k ≤ a). let same : a ≡ k = omega arith in subst (λ m. f m ≡ None) same here)
          (cases_lt a k)
      | Some y ↦ λ here found. cc
    ]) refl none

-- no place of the list up to n has a fault
abbrev pub PassesUpTo : List Slot → ℕ → Type 0
PassesUpTo slots n = (k : ℕ) → 3 ≤ k → k < n → fault_at slots k ≡ None

-- the fault at a place is that of its slot behind those before
pub fault_at-is : (slots : List Slot) (k : ℕ) (s : Slot) → k < length slots → s ≡ get_or slots k s → fault_at slots k ≡ slot_fault (take k slots) s
fault_at-is slots k s l read = rw (slice_get-get_or slots k s l) (ap (slot_fault (take k slots)) (sym read))

-- the same, at a fault that was computed
pub fault_at-by : (slots : List Slot) (k : ℕ) (d : Slot) (o : Option OrderFault) → k < length slots → o ≡ slot_fault (take k slots) (get_or slots k d) → fault_at slots k ≡ o
fault_at-by slots k d o within e =
    fault_at-is slots k (get_or slots k d) within (get_or_default slots k d (get_or slots k d) within) ∙ sym e

pub first_fault-at : (slots : List Slot) (i : ℕ) (fault : OrderFault) → 3 ≤ i → i < length slots → PassesUpTo slots i → fault_at slots i ≡ Some fault → first_fault slots ≡ Some fault
first_fault-at slots i fault low high passes here =
    find_map-range_some (fault_at slots) 3 (length slots - 3) i fault low (omega arith) passes here

pub first_fault-none : (slots : List Slot) (n : ℕ) → length slots ≤ n → PassesUpTo slots n → first_fault slots ≡ None
first_fault-none slots n all passes =
    find_map-range_none (fault_at slots) 3 (length slots - 3) (λ k l h. passes k l (omega arith))

pub PassesUpTo-more : (slots : List Slot) (i : ℕ) → PassesUpTo slots i → fault_at slots i ≡ None → PassesUpTo slots (i + 1)
PassesUpTo-more slots i passes here k low high =
    ⊎_elim (λ (below : k < i). passes k low below) (λ (above : i ≤ k). let same : i ≡ k = omega arith in subst (λ n. fault_at slots n ≡ None) same here) (cases_lt k i)

-- the front of the list is the fixed slots
pub front_is : (slots : List Slot) → starts_with is_slot slots fixed_slots ≡ true → take 3 slots ≡ fixed_slots
front_is slots starts =
    let decides : (s x : Slot) → (is_slot s x ≡ true → s ≡ x) × (s ≡ x → is_slot s x ≡ true) =
    λ s x. (λ h. sym (slot_is s x h), λ e. subst (λ y. is_slot s y ≡ true) e (is_slot-own s)) in
    sym ((pointwise_decides decides fixed_slots (take 3 slots)).0 starts)

pub starts-front : (slots : List Slot) → take 3 slots ≡ fixed_slots → starts_with is_slot slots fixed_slots ≡ true
starts-front slots front = rw front refl

-- a slot without a fault is of a movable module and stands nowhere before
pub slot_fault-none : (before : List Slot) (s : Slot) → slot_fault before s ≡ None → (3 ≤ s.module) × (has_slot before s ≡ false)
slot_fault-none before s none = (grind (arith, nat_tests), grind (arith, nat_tests))

pub none-slot_fault : (before : List Slot) (s : Slot) → 3 ≤ s.module → has_slot before s ≡ false → slot_fault before s ≡ None
none-slot_fault before s movable absent = grind (arith, nat_tests)

-- two lists, of which the first has no slot of the second's
distinct_one : (s t : Slot) (xs : List Slot) → AreDistinct xs → has_slot xs s ≡ false → times t (xs ++ s ∷ []) ≤ 1
distinct_one s t xs distinct absent = omega (arith, times-append t xs (s ∷ []), times-one t s, distinct_more xs s t absent (distinct t))

distinct_fixed : AreDistinct fixed_slots
distinct_fixed =
    let one : AreDistinct (slot 0 0 ∷ []) = λ t. distinct_one (slot 0 0) t [] (λ _. omega arith) refl in
    let two : AreDistinct (slot 0 0 ∷ slot 1 0 ∷ []) = λ t. distinct_one (slot 1 0) t (slot 0 0 ∷ []) one refl in
    λ t. distinct_one (slot 2 0) t (slot 0 0 ∷ slot 1 0 ∷ []) two refl

-- the same at a place of the list
slot_passes : (slots : List Slot) (k : ℕ) (d : Slot) → k < length slots → fault_at slots k ≡ None → (3 ≤ (get_or slots k d).module) × (has_slot (take k slots) (get_or slots k d) ≡ false)
slot_passes slots k d within none =
    let s = get_or slots k d in
    slot_fault-none (take k slots) s (sym (fault_at-is slots k s within (get_or_default slots k d s within)) ∙ none)

-- a list of the fixed slots and others without a fault has no slot twice
distinct_front : (slots : List Slot) (n : ℕ) → take 3 slots ≡ fixed_slots → n + 3 ≤ length slots → PassesUpTo slots (n + 3) → AreDistinct (take (n + 3) slots)
distinct_front slots zero front long passes = rw front distinct_fixed
distinct_front slots (suc n) front long passes = λ t.
    let last = get_or slots (n + 3) t in
    let within : n + 3 < length slots = omega arith in
    let absent = (slot_passes slots (n + 3) t within (passes (n + 3) (omega arith) (omega arith))).1 in
    let before = distinct_front slots n front (omega arith) (λ k l h. passes k l (omega arith)) in
    let more : take (suc n + 3) slots ≡ take (n + 3) slots ++ last ∷ [] = subst (λ m. take m slots ≡ take (n + 3) slots ++ last ∷ []) (omega arith) (take_more slots (n + 3) t within) in
    rw more (distinct_one last t (take (n + 3) slots) before absent)

-- a list that begins with the fixed slots, without a fault behind them, is an order
IsOrder-passes : (slots : List Slot) → length slots ≤ 64 → take 3 slots ≡ fixed_slots → PassesUpTo slots (length slots) → IsOrder slots
IsOrder-passes slots few front passes =
    let long : 3 ≤ length slots = omega (arith, ap length front, length-take 3 slots) in
    let n = length slots - 3 in
    let whole : take (n + 3) slots ≡ slots = take_all (n + 3) slots (omega arith) in
    record {
      few = few;
      front = front;
      movable = λ k d l.
          let within : 3 + k < length slots = omega (arith, length-drop 3 slots) in
          rw (get_or-drop 3 slots k d) ((slot_passes slots (3 + k) d within (passes (3 + k) (omega arith) within)).0);
      distinct = subst AreDistinct whole (distinct_front slots n front (omega arith) (λ k low high. passes k low (omega arith)));
    }

pub IsOrder-fault : (slots : List Slot) → order_fault slots ≡ None → IsOrder slots
IsOrder-fault slots none =
    let few : length slots ≤ 64 = grind (arith, nat_tests) in
    let starts : starts_with is_slot slots fixed_slots ≡ true = grind (arith, nat_tests) in
    let first : first_fault slots ≡ None = grind (arith, nat_tests) in
    IsOrder-passes slots few (front_is slots starts) (λ k low high. find_map-range_passes (fault_at slots) 3 (length slots - 3) k first low (omega arith))

-- an order has no fault
PassesUpTo-order : (slots : List Slot) → IsOrder slots → PassesUpTo slots (length slots)
PassesUpTo-order slots order k low high =
    let d = slot 0 0 in
    let s = get_or slots k d in
    let at_rest : get_or (drop 3 slots) (k - 3) d ≡ s = get_or-drop 3 slots (k - 3) d ∙ ap (λ n. get_or slots n d) (omega arith) in
    let movable : 3 ≤ s.module = subst (λ x. 3 ≤ x.module) at_rest (order.movable (k - 3) d (omega (arith, length-drop 3 slots))) in
    let upto : times s (take (k + 1) slots) ≤ 1 = omega (arith, times_front s slots (k + 1), order.distinct s) in
    let split : times s (take (k + 1) slots) ≡ times s (take k slots) + 1 =
    ap (times s) (take_more slots k d high) ∙ times-append s (take k slots) (s ∷ []) ∙ ap (λ n. times s (take k slots) + n) (times-one s s ∙ ap (λ b. cond {A = ℕ} b 1 0) (is_slot-own s)) in
    let absent : has_slot (take k slots) s ≡ false = none_from_times s (take k slots) (omega arith) in
    fault_at-is slots k s high (get_or_default slots k d s high) ∙ none-slot_fault (take k slots) s movable absent

pub order_fault-none : (slots : List Slot) → IsOrder slots → order_fault slots ≡ None
order_fault-none slots order =
    let starts : starts_with is_slot slots fixed_slots ≡ true = starts-front slots order.front in
    let few : length slots ≤ 64 = order.few in
    let first : first_fault slots ≡ None = first_fault-none slots (length slots) (omega arith) (PassesUpTo-order slots order) in
    grind (arith, nat_tests)
