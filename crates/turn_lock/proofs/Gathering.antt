-- A list of which one element is taken out, and the entries of joined passes.
use Rattle.std.proofs.Common.{◌≡◌, ◌⊎◌, ⊎_elim, inl, inr, ℕ, ◌+◌, ◌<◌, List, [], ◌∷◌, ◌++◌, map, length, get_or, remove, zero, suc, refl, sym, ap, ◌∙◌, subst, arith, Contains, IsPermutation, append_assoc, Option, Some, All, ◌≤◌}
use mathlib.Core.Logic.{dite}
use native.Mathlib.Decide.{ℕ_discrete}
use Rattle.std.specs.List.{range_with_len}
use mathlib.Core.Option.{some, some-injective}
use lib.ListN.{get_elem?}
use Rattle.std.proofs.lemmas.List.{map-append}
use Rattle.std.proofs.lemmas.List.Elements.{Contains-append_cases, Contains-append_right, Contains-get_or, All-contains}
use Rattle.std.proofs.lemmas.List.Sorted.{IsPermutation-remove, IsPermutation-sym, Contains-permutation}
use Rattle.atomic_table.specs.Table.{Me}
use Rattle.turn_lock.specs.declared.view.View.{View}
use Rattle.turn_lock.specs.Known.{Known}
use Rattle.turn_lock.specs.Rule.{Joined}
use Rattle.turn_lock.specs.Story.{StartsWith, borne}
use Rattle.turn_lock.specs.Steps.{joined}
use Rattle.turn_lock.specs.Ending.{joined_of, Has, HasAll, IsLeft}

only_one : {A : Type 0} (x p : A) → Contains (x ∷ []) p → x ≡ p
only_one x p (zero, inside, e) = e
only_one x p (suc k, inside, e) = absurd (omega arith)

module _ {A : Type 0} (xs ys : List A) (i : ℕ) (x : A) (inside : i < length xs) (is : x ≡ get_or xs i x) (rest : ys ≡ remove xs i) where
  moved : IsPermutation xs (x ∷ ys)
  moved = subst (λ (l : List A). IsPermutation xs (x ∷ l)) (sym rest) (IsPermutation-remove xs i x inside is)

  -- each element is the one that was taken out, or is still there
  pub taken_or_left : (p : A) → Contains xs p → (x ≡ p) ⊎ Contains ys p
  taken_or_left p there = ⊎_elim (λ h. inl (only_one x p h)) (λ h. inr h) (Contains-append_cases (x ∷ []) ys p (Contains-permutation xs (x ∷ ys) p moved there))

  -- and what is still there was there before
  pub was_there : (p : A) → Contains ys p → Contains xs p
  was_there p left = Contains-permutation (x ∷ ys) xs p (IsPermutation-sym xs (x ∷ ys) moved) (Contains-append_right (x ∷ []) ys p left)

module _ {E : Type 0} where
  has_left : (x : Joined E) (ks js : List (Joined E)) → Has x ks → Has x (ks ++ js)
  has_left x [] js h = absurd h
  has_left x (k ∷ ks) js h = ⊎_elim (λ e. inl e) (λ r. inr (has_left x ks js r)) h

module _ {N E : Type 0} where
  has_map : (p : Known N E) (ps : List (Known N E)) (k : ℕ) → k < length ps → get_or ps k p ≡ p → Has (joined_of p) (map joined_of ps)
  has_map p [] k inside e = absurd (omega arith)
  has_map p (q ∷ qs) zero inside e = inl (ap joined_of (sym e))
  has_map p (q ∷ qs) (suc k) inside e = inr (has_map p qs k (omega arith) e)

  -- a pass that was joined has its entry
  pub has_joined : (p : Known N E) (ps : List (Known N E)) (js : List (Joined E)) → Contains ps p → Has (joined_of p) (map joined_of ps ++ js)
  has_joined p ps js there = has_left (joined_of p) (map joined_of ps) js (has_map p ps there.0 there.1 there.2)

  -- one pass less to join, one entry more
  pub kept_more : (ps qs : List (Known N E)) (p : Known N E) (js after whole : List (Joined E)) → ps ≡ qs ++ p ∷ [] → map joined_of ps ++ js ≡ whole → after ≡ joined_of p ∷ js → map joined_of qs ++ after ≡ whole
  kept_more ps qs p js after whole split so_far more =
      ap (λ j. map joined_of qs ++ j) more
      ∙ (sym (append_assoc (map joined_of qs) (joined_of p ∷ []) js)
      ∙ (ap (λ l. l ++ js) (sym (map-append joined_of qs (p ∷ [])))
      ∙ (ap (λ l. map joined_of l ++ js) (sym split) ∙ so_far)))

  pub seat_more : {T : Type 0} (first before after : Me (Option T) (View N E)) (w : View N E) → before ≡ (record first.0 { kept = before.0.kept }, first.1) → after ≡ (joined before.0 w, before.1)
      → after ≡ (record first.0 { kept = after.0.kept }, first.1)
  seat_more first before after w was step =
      let full = step ∙ ap (λ m. (joined m.0 w, m.1)) was in
      full ∙ (λ i. (record first.0 { kept = ap (λ m. m.0.kept) (sym full) i }, first.1))

-- what the slot held is what was read of it
pub slot_is : {A : Type 0} (slots : List (Option A)) (last : Option A) (x : A) → get_elem? slots 0 ≡ some last → get_elem? slots 0 ≡ some (Some x) → last ≡ Some x
slot_is slots last x read held = some-injective last (Some x) (sym read ∙ held)

pub some_is : {A : Type 0} (last : Option A) (x y : A) → last ≡ Some x → last ≡ Some y → x ≡ y
some_is last x y p q = cc

pub all_kept : {A : Type 0} (P : A → Type 0) (xs ys : List A) → ((p : A) → Contains ys p → Contains xs p) → All P xs → All P ys
all_kept P xs ys was all = λ k d inside. All-contains P xs (get_or ys k d) all (was (get_or ys k d) (Contains-get_or ys k d inside))

module _ {N E : Type 0} (ps qs : List (Known N E)) (first : Known N E) (v : View N E) (js : List (Joined E)) (zero_is : first.number ≡ 0) (kept : v.kept ≡ map joined_of qs ++ js)
    (others : (p : Known N E) → Contains ps p → (first ≡ p) ⊎ Contains qs p) where
  pub has_all : (seats : ℕ) → v.count ≡ seats → ((n : ℕ) → n < seats → (p : Known N E) × Contains ps p × (p.number ≡ n)) → HasAll v
  has_all seats counted all n later below =
      let p = all n (omega arith) in
      let numbered = p.2 in (
        joined_of p.0,
        numbered,
        ⊎_elim
            (λ (e : first ≡ p.0). let same : first.number ≡ p.0.number = ap (λ (q : Known N E). q.number) e in absurd (omega arith))
            (λ (there : Contains qs p.0). subst (Has (joined_of p.0)) (sym kept) (has_joined p.0 qs js there))
            (others p.0 p.1),
      )

  pub all_left : {T : Type 0} (name_of : T → N) (story_of : T → List E) (bearer : E → ℕ) (called : N) (x : T) → IsLeft name_of story_of bearer called v x → v.seen ≡ first.seen → v.own ≡ first.own
      → All (λ (p : Known N E). StartsWith (story_of x) p.seen × (borne bearer p.number (story_of x) ≡ p.own)) ps
  all_left name_of story_of bearer called x left seen own k d inside =
      let p = get_or ps k d in
      let Said : Known N E → Type 0 = λ q. StartsWith (story_of x) q.seen × (borne bearer q.number (story_of x) ≡ q.own) in
      ⊎_elim
      (λ (e : first ≡ p). subst Said e (subst (StartsWith (story_of x)) seen left.seen, ap (λ n. borne bearer n (story_of x)) zero_is ∙ (left.own ∙ own)))
      (λ (there : Contains qs p). left.kept (joined_of p) (subst (Has (joined_of p)) (sym kept) (has_joined p qs js there)))
      (others p (Contains-get_or ps k d inside))

-- passes in the order of their numbers are all of them
pub all_in_order : {N E : Type 0} (ps : List (Known N E)) (from count : ℕ) → map (λ p. p.number) ps ≡ range_with_len from count → (n : ℕ) → from ≤ n → n < from + count → (p : Known N E) × Contains ps p × (p.number ≡ n)
all_in_order [] from zero e n low high = absurd (omega arith)
all_in_order [] from (suc count) e n low high = cc
all_in_order (p ∷ ps) from zero e n low high = absurd (omega arith)
all_in_order (p ∷ ps) from (suc count) e n low high =
    let head : p.number ≡ from = cc in
    let tail : map (λ q. q.number) ps ≡ range_with_len (from + 1) count = cc in
    dite (ℕ_discrete n from)
    (λ is. (p, (zero, (omega arith), refl), head ∙ sym is))
    (λ later. let found = all_in_order ps (from + 1) count tail n (omega arith) (omega arith) in
    (found.0, (suc found.1.0, (let inside = found.1.1 in omega arith), found.1.2), found.2))
