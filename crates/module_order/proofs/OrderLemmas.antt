-- Lemmas on orders: what an insertion and a removal keep.
use Rattle.std.proofs.Common.{◌≡◌, ℕ, ◌+◌, ◌-◌, ◌<◌, ◌≤◌, false, not, List, ◌∷◌, ◌++◌, length, take, drop, sym, ap, ◌∙◌, subst, arith, None}
use Rattle.std.specs.List.{insert}
use Rattle.std.proofs.lemmas.Bool.Decides.{nat_tests}
use Rattle.std.proofs.lemmas.List.{take-append-drop, take-append-le, take-take, drop-append-le, drop-take, drop-drop, length-take-le}
use Rattle.std.proofs.lemmas.List.Edits.{length-insert}
use Rattle.std.proofs.lemmas.List.Elements.{All-append, All-cons, All-take, All-drop, All-filter, All-same, filter-append}
use Rattle.module_order.specs.declared.slots.Slot.{Slot}
use Rattle.module_order.specs.Slot.{is_slot, has_slot, without, fixed_slots}
use Rattle.module_order.specs.Order.{IsOrder}
use Rattle.module_order.specs.Faults.{insert_fault, remove_fault, move_fault}
use Rattle.module_order.proofs.SlotLemmas.{distinct_more, times-insert, times_without, without_none, times_none, without_leaves}

abbrev IsMovable : Slot → Type 0
IsMovable s = 3 ≤ s.module

-- the slot may stand at the place, where it doesn't stand in the list yet
pub record MayStand (slots : List Slot) (s : Slot) (place : ℕ) : Type 0 where
  pub movable : IsMovable s
  pub absent : has_slot slots s ≡ false
  pub room : length slots < 64
  pub free : 3 ≤ place
  pub within : place ≤ length slots

pub MayStand-inserted : (slots seen : List Slot) (s : Slot) (place : ℕ) → slots ≡ seen → insert_fault seen s place ≡ None → MayStand slots s place
MayStand-inserted slots seen s place same refused =
    let none : insert_fault slots s place ≡ None = subst (λ list. insert_fault list s place ≡ None) (sym same) refused in
    record {
      movable = grind (arith, nat_tests);
      absent = grind (arith, nat_tests);
      room = grind (arith, nat_tests);
      free = grind (arith, nat_tests);
      within = grind (arith, nat_tests);
    }

pub MayStand-moved : (slots seen : List Slot) (s : Slot) (place : ℕ) → slots ≡ seen → length slots ≤ 64 → length (without slots s) + 1 ≡ length slots → move_fault seen s place ≡ None → MayStand (without slots s) s place
MayStand-moved slots seen s place same few one_less refused =
    let none : move_fault slots s place ≡ None = subst (λ list. move_fault list s place ≡ None) (sym same) refused in
    record {
      movable = grind (arith, nat_tests);
      absent = without_leaves s slots;
      room = omega arith;
      free = grind (arith, nat_tests);
      within = grind (arith, nat_tests);
    }

pub IsMovable-removed : (slots : List Slot) (s : Slot) → remove_fault slots s ≡ None → IsMovable s
IsMovable-removed slots s none = grind (arith, nat_tests)

pub IsMovable-moved : (slots : List Slot) (s : Slot) (place : ℕ) → move_fault slots s place ≡ None → IsMovable s
IsMovable-moved slots s place none = grind (arith, nat_tests)

-- an order is the fixed slots and the rest
pub order_is : (xs : List Slot) → take 3 xs ≡ fixed_slots → xs ≡ fixed_slots ++ drop 3 xs
order_is xs e = sym (take-append-drop 3 xs) ∙ ap (λ front. front ++ drop 3 xs) e

pub IsOrder-insert : (xs : List Slot) (s : Slot) (place : ℕ) → IsOrder xs → MayStand xs s place → IsOrder (insert xs place s)
IsOrder-insert xs s place order may =
    let free : 3 ≤ place = may.free in
    let within : place ≤ length xs = may.within in
    let long : length (take place xs) ≡ place = length-take-le place xs within in
    let front : take 3 (insert xs place s) ≡ take 3 xs =
    take-append-le 3 (take place xs) (s ∷ drop place xs) (omega arith) ∙ take-take 3 place xs free in
    let behind : drop 3 (take place xs) ≡ take (place - 3) (drop 3 xs) =
    subst (λ n. drop 3 (take n xs) ≡ take (place - 3) (drop 3 xs)) (omega arith) (drop-take 3 (place - 3) xs) in
    let above : drop place xs ≡ drop (place - 3) (drop 3 xs) =
    subst (λ n. drop n xs ≡ drop (place - 3) (drop 3 xs)) (omega arith) (sym (drop-drop (place - 3) 3 xs)) in
    let below = take (place - 3) (drop 3 xs) in
    let above_all = drop (place - 3) (drop 3 xs) in
    let rest : drop 3 (insert xs place s) ≡ below ++ (s ∷ above_all) =
    drop-append-le 3 (take place xs) (s ∷ drop place xs) (omega arith) ∙ ap (λ ys. ys ++ (s ∷ drop place xs)) behind ∙ ap (λ ys. below ++ (s ∷ ys)) above in
    record {
      few = omega (arith, length-insert xs place s within, may.room);
      front = front ∙ order.front;
      movable = All-same IsMovable (drop 3 (insert xs place s)) (below ++ (s ∷ above_all)) rest (All-append IsMovable below (s ∷ above_all) (All-take IsMovable (place - 3) (drop 3 xs) order.movable) (All-cons IsMovable s above_all may.movable (All-drop IsMovable (place - 3) (drop 3 xs) order.movable)));
      distinct = λ t. omega (arith, times-insert s t xs place, distinct_more xs s t may.absent (order.distinct t));
    }

-- the fixed slots stay where another slot is taken out
pub without-order : (xs : List Slot) (s : Slot) → take 3 xs ≡ fixed_slots → IsMovable s → without xs s ≡ fixed_slots ++ without (drop 3 xs) s
without-order xs s front movable =
    let stay : without fixed_slots s ≡ fixed_slots = without_none s fixed_slots (times_none s fixed_slots (grind (arith, nat_tests))) in
    ap (λ ys. without ys s) (order_is xs front) ∙ filter-append (λ x. not (is_slot s x)) fixed_slots (drop 3 xs) ∙ ap (λ ys. ys ++ without (drop 3 xs) s) stay

pub IsOrder-without : (xs : List Slot) (s : Slot) → IsOrder xs → IsMovable s → length (without xs s) + 1 ≡ length xs → IsOrder (without xs s)
IsOrder-without xs s order movable one_less =
    let parts = without-order xs s order.front movable in
    record {
      few = omega (arith, order.few);
      front = ap (take 3) parts;
      movable = All-same IsMovable (drop 3 (without xs s)) (without (drop 3 xs) s) (ap (drop 3) parts) (All-filter (λ x. not (is_slot s x)) IsMovable (drop 3 xs) order.movable);
      distinct = λ t. omega (arith, times_without s t xs, order.distinct t);
    }
