-- Lemmas on lists of slots.
use Rattle.std.proofs.Common.{◌≡◌, ℕ, ◌+◌, ◌<◌, ◌≤◌, Bool, true, false, not, cond, ◌||◌, List, [], ◌∷◌, ◌++◌, length, get_or, take, drop, zero, suc, refl, sym, ap, ◌∙◌, subst, arith}
use Rattle.std.specs.List.{filter, remove, insert, position, position_or_len}
use Rattle.std.specs.Prelude.{is_some}
use Rattle.std.proofs.lemmas.Bool.{false≢true}
use Rattle.std.proofs.lemmas.Bool.Decides.{nat_tests}
use Rattle.std.proofs.lemmas.List.{take-append-drop, length-append}
use Rattle.std.proofs.lemmas.List.Elements.{filter-append}
use Rattle.std.proofs.lemmas.List.Folds.{list_any-append}
use Rattle.std.proofs.lemmas.Map.Views.{any-filter_same}
use Rattle.module_order.specs.declared.slots.Slot.{Slot}
use Rattle.module_order.specs.Slot.{is_slot, has_slot, without}

-- how many times the slot s stands in the list
abbrev pub times : Slot → List Slot → ℕ
times s xs = length (filter (is_slot s) xs)

-- the slot that is s is s
pub slot_is : (s x : Slot) → is_slot s x ≡ true → x ≡ s
slot_is s x h =
    let same_module : x.module ≡ s.module = grind (arith, nat_tests) in
    let same_instance : x.instance ≡ s.instance = grind (arith, nat_tests) in
    λ k. record { «module» = same_module k; instance = same_instance k }

pub is_slot-own : (s : Slot) → is_slot s s ≡ true
is_slot-own s = grind (arith, nat_tests)

-- a slot that doesn't stand in the list stands there no time, and the other way round
pub times_none : (s : Slot) (xs : List Slot) → has_slot xs s ≡ false → times s xs ≡ 0
times_none s [] h = refl
times_none s (x ∷ xs) h =
    elim (is_slot s x) as (λ b. (b || has_slot xs s) ≡ false → length (cond b (x ∷ filter (is_slot s) xs) (filter (is_slot s) xs)) ≡ 0)
    [ true ↦ λ e. absurd (false≢true (sym e)) | false ↦ λ e. times_none s xs e ] h

pub none_from_times : (s : Slot) (xs : List Slot) → times s xs ≡ 0 → has_slot xs s ≡ false
none_from_times s [] h = refl
none_from_times s (x ∷ xs) h =
    elim (is_slot s x) as (λ b. length (cond b (x ∷ filter (is_slot s) xs) (filter (is_slot s) xs)) ≡ 0 → (b || has_slot xs s) ≡ false)
    [ true ↦ λ e. absurd (omega arith) | false ↦ λ e. none_from_times s xs e ] h

pub without_none : (s : Slot) (xs : List Slot) → times s xs ≡ 0 → without xs s ≡ xs
without_none s [] h = refl
without_none s (x ∷ xs) h =
    elim (is_slot s x) as (λ b. length (cond b (x ∷ filter (is_slot s) xs) (filter (is_slot s) xs)) ≡ 0 → cond (not b) (x ∷ without xs s) (without xs s) ≡ x ∷ xs)
    [ true ↦ λ e. absurd (omega arith) | false ↦ λ e. ap (λ ys. x ∷ ys) (without_none s xs e) ] h

-- a slot that stands in the list has a place
pub has_place : (s : Slot) (xs : List Slot) → has_slot xs s ≡ true → position_or_len (is_slot s) xs < length xs
has_place s [] h = absurd (false≢true h)
has_place s (x ∷ xs) h =
    elim (is_slot s x) as (λ b. (b || has_slot xs s) ≡ true → cond {A = ℕ} (not b) (1 + position_or_len (is_slot s) xs) 0 < suc (length xs))
    [ true ↦ λ e. omega arith | false ↦ λ e. let l = has_place s xs e in omega arith ] h

-- and none where it doesn't
pub no_place : (s : Slot) (xs : List Slot) → has_slot xs s ≡ false → length xs ≤ position_or_len (is_slot s) xs
no_place s [] h = omega arith
no_place s (x ∷ xs) h =
    elim (is_slot s x) as (λ b. (b || has_slot xs s) ≡ false → suc (length xs) ≤ cond {A = ℕ} (not b) (1 + position_or_len (is_slot s) xs) 0)
    [ true ↦ λ e. absurd (false≢true (sym e)) | false ↦ λ e. let l = no_place s xs e in omega arith ] h

pub is_some-position : (s : Slot) (xs : List Slot) → is_some (position (is_slot s) xs) ≡ has_slot xs s
is_some-position s xs =
    elim (has_slot xs s) as (λ b. has_slot xs s ≡ b → is_some (position (is_slot s) xs) ≡ b) [
      | true ↦ λ e. let l = has_place s xs e in grind (arith, nat_tests)
      | false ↦ λ e. let l = no_place s xs e in grind (arith, nat_tests)
    ] refl

-- a slot at a place stands in the list
pub times_at : (s : Slot) (xs : List Slot) (i : ℕ) → i < length xs → is_slot s (get_or xs i s) ≡ true → 1 ≤ times s xs
times_at s [] i l h = absurd (omega arith)
times_at s (x ∷ xs) zero l h = rw h (omega arith)
times_at s (x ∷ xs) (suc i) l h =
    let t = times_at s xs i (omega arith) h in
    elim (is_slot s x) as (λ b. 1 ≤ length (cond b (x ∷ filter (is_slot s) xs) (filter (is_slot s) xs)))
    [ true ↦ omega arith | false ↦ t ]

-- taking out the one place where the slot stands takes out the slot
pub remove_is : (s : Slot) (xs : List Slot) (i : ℕ) → i < length xs → is_slot s (get_or xs i s) ≡ true → times s xs ≤ 1 → remove xs i ≡ without xs s
remove_is s [] i l h d = absurd (omega arith)
remove_is s (x ∷ xs) zero l h d =
    elim (is_slot s x) as (λ b. b ≡ true → length (cond b (x ∷ filter (is_slot s) xs) (filter (is_slot s) xs)) ≤ 1 → xs ≡ cond (not b) (x ∷ without xs s) (without xs s))
    [ true ↦ λ e d. sym (without_none s xs (omega arith)) | false ↦ λ e. absurd (false≢true e) ] h d
remove_is s (x ∷ xs) (suc i) l h d =
    let t = times_at s xs i (omega arith) h in
    elim (is_slot s x) as (λ b. length (cond b (x ∷ filter (is_slot s) xs) (filter (is_slot s) xs)) ≤ 1 → x ∷ remove xs i ≡ cond (not b) (x ∷ without xs s) (without xs s))
    [ true ↦ λ d. absurd (omega arith) | false ↦ λ d. ap (λ ys. x ∷ ys) (remove_is s xs i (omega arith) h d) ] d

-- the filter keeps no more
pub times_without : (s t : Slot) (xs : List Slot) → times t (without xs s) ≤ times t xs
times_without s t [] = omega arith
times_without s t (x ∷ xs) =
    let rest = times_without s t xs in
    elim (is_slot s x) as (λ b. times t (cond (not b) (x ∷ without xs s) (without xs s)) ≤ length (cond (is_slot t x) (x ∷ filter (is_slot t) xs) (filter (is_slot t) xs))) [
      | true ↦ elim (is_slot t x) as (λ b. times t (without xs s) ≤ length (cond b (x ∷ filter (is_slot t) xs) (filter (is_slot t) xs))) [ true ↦ omega arith | false ↦ rest ]
      | false ↦ elim (is_slot t x) as (λ b. length (cond b (x ∷ filter (is_slot t) (without xs s)) (filter (is_slot t) (without xs s))) ≤ length (cond b (x ∷ filter (is_slot t) xs) (filter (is_slot t) xs))) [ true ↦ omega arith | false ↦ rest ]
    ]

-- what stands in two lists, one after the other
pub times-append : (s : Slot) (xs ys : List Slot) → times s (xs ++ ys) ≡ times s xs + times s ys
times-append s xs ys = ap length (filter-append (is_slot s) xs ys) ∙ length-append (filter (is_slot s) xs) (filter (is_slot s) ys)

pub times-one : (s x : Slot) → times s (x ∷ []) ≡ cond (is_slot s x) 1 0
times-one s x = elim (is_slot s x) as (λ b. length (cond {A = List Slot} b (x ∷ []) []) ≡ cond {A = ℕ} b 1 0) [ true ↦ refl | false ↦ refl ]

pub times_front : (s : Slot) (xs : List Slot) (n : ℕ) → times s (take n xs) ≤ times s xs
times_front s xs n =
    let whole = ap (times s) (take-append-drop n xs) in
    omega (arith, whole, times-append s (take n xs) (drop n xs))

-- one slot put in stands once more
pub times-insert : (s t : Slot) (xs : List Slot) (i : ℕ) → times t (insert xs i s) ≡ times t xs + cond (is_slot t s) 1 0
times-insert s t xs i =
    let whole = ap (times t) (take-append-drop i xs) in
    omega (arith, whole, times-append t (take i xs) (drop i xs), times-append t (take i xs) (s ∷ drop i xs), times-append t (s ∷ []) (drop i xs), times-one t s)

-- a slot behind a list in which it doesn't stand
pub distinct_more : (xs : List Slot) (x t : Slot) → has_slot xs x ≡ false → times t xs ≤ 1 → times t xs + cond (is_slot t x) 1 0 ≤ 1
distinct_more xs x t h d =
    let b = is_slot t x in
    elim b as (λ v. is_slot t x ≡ v → times t xs + cond v 1 0 ≤ 1) [
      | true ↦ λ e. let none : times t xs ≡ 0 = subst (λ s. times s xs ≡ 0) (slot_is t x e) (times_none x xs h) in omega arith
      | false ↦ λ e. omega arith
    ] refl

-- the slot taken out stands there no more
pub without_leaves : (s : Slot) (xs : List Slot) → has_slot (without xs s) s ≡ false
without_leaves s [] = refl
without_leaves s (x ∷ xs) =
    elim (is_slot s x) as (λ v. is_slot s x ≡ v → has_slot (cond (not v) (x ∷ without xs s) (without xs s)) s ≡ false)
    [ true ↦ λ e. without_leaves s xs | false ↦ λ e. rw e (without_leaves s xs) ] refl

or_swap : (a b c : Bool) → (a || (b || c)) ≡ (b || (a || c))
or_swap true true c = refl
or_swap true false c = refl
or_swap false b c = refl

-- which slots stand after one is put in, and after one is taken out
pub has_slot-insert : (xs : List Slot) (i : ℕ) (s t : Slot) → has_slot (insert xs i s) t ≡ (is_slot t s || has_slot xs t)
has_slot-insert xs i s t =
    let whole = ap (λ ys. has_slot ys t) (take-append-drop i xs) in
    let parts = list_any-append (is_slot t) (take i xs) (drop i xs) in
    let around = list_any-append (is_slot t) (take i xs) (s ∷ drop i xs) in
    rw (around, ← whole, parts) (or_swap (has_slot (take i xs) t) (is_slot t s) (has_slot (drop i xs) t))

pub has_slot-without : (xs : List Slot) (s t : Slot) → is_slot s t ≡ false → has_slot (without xs s) t ≡ has_slot xs t
has_slot-without xs s t other =
    any-filter_same (is_slot t) (λ x. not (is_slot s x)) true (λ x h. ap not (subst (λ y. is_slot s y ≡ false) (sym (slot_is t x h)) other)) xs
