-- that a change between two moments concerns a pipe
use Rattle.std.proofs.Common.{◌≡◌, ℕ, zero, suc, ◌+◌, ◌-◌, ◌<◌, ◌≤◌, Bool, true, false, ◌||◌, List, [], ◌∷◌, take, drop, refl, sym, ap, ◌∙◌, arith, ⊎_elim}
use Rattle.std.specs.Prelude.{slice_get}
use Rattle.std.specs.List.{list_any}
use Rattle.std.specs.Option.{option_map_or}
use Rattle.std.proofs.lemmas.Bool.{cases_Bool, cases_lt}
use Rattle.outside.specs.declared.job_name.Pipe.{Pipe}
use Rattle.edit_steps.specs.Pipes.{concerns}
use Rattle.edit_steps.specs.Changes.{changes_of}
use Rattle.edit_steps.specs.Script.{Recipe}
use Rattle.journal.specs.Desk.{Later}

-- ---- tests on parts of a list

-- the test at a place
abbrev at_place : {X : Type 0} → (X → Bool) → List X → ℕ → Bool
at_place test xs k = option_map_or test (slice_get xs k) false

-- a test that some of the first n pass is passed at a place
record Passes {X : Type 0} (test : X → Bool) (xs : List X) (a b : ℕ) : Type 0 where
  place : ℕ
  from : a ≤ place
  before : place < b
  passed : at_place test xs place ≡ true

passes_taken : {X : Type 0} → (test : X → Bool) (xs : List X) (n : ℕ) → list_any test (take n xs) ≡ true → Passes test xs 0 n
passes_taken test [] zero e = absurd cc
passes_taken test [] (suc n) e = absurd cc
passes_taken test (x ∷ xs) zero e = absurd cc
passes_taken test (x ∷ xs) (suc n) e =
    ⊎_elim (λ (h : test x ≡ true). record { place = 0; from = omega arith; before = omega arith; passed = h })
    (λ (h : test x ≡ false).
    let r = passes_taken test xs n (sym (ap (λ b. b || list_any test (take n xs)) h) ∙ e) in
    record { place = suc r.place; from = omega arith; before = omega (arith, r.before); passed = r.passed })
    (cases_Bool (test x))

taken_passes : {X : Type 0} → (test : X → Bool) (xs : List X) (n k : ℕ) → k < n → at_place test xs k ≡ true → list_any test (take n xs) ≡ true
taken_passes test [] n k less e = absurd cc
taken_passes test (x ∷ xs) zero k less e = absurd (omega arith)
taken_passes test (x ∷ xs) (suc n) zero less e = ap (λ b. b || list_any test (take n xs)) e
taken_passes test (x ∷ xs) (suc n) (suc k) less e =
    let rest = taken_passes test xs n k (omega arith) e in
    ⊎_elim (λ (h : test x ≡ true). ap (λ b. b || list_any test (take n xs)) h)
    (λ (h : test x ≡ false). ap (λ b. b || list_any test (take n xs)) h ∙ rest) (cases_Bool (test x))

slice_get-drop : {X : Type 0} → (xs : List X) (a k : ℕ) → slice_get (drop a xs) k ≡ slice_get xs (a + k)
slice_get-drop xs zero k = let e : k ≡ 0 + k = omega arith in ap (slice_get xs) e
slice_get-drop [] (suc a) k = refl
slice_get-drop (x ∷ xs) (suc a) k = let e : suc (a + k) ≡ suc a + k = omega arith in slice_get-drop xs a k ∙ ap (slice_get (x ∷ xs)) e

-- ---- a change that concerns the pipe

-- the change with this place, the first having 0, concerns the pipe
abbrev pub concerned : Recipe → Pipe → ℕ → Bool
concerned script p k = option_map_or (concerns p) (slice_get (changes_of script.steps) k) false

-- the change after the first k is after the first a and among the first b, and concerns the pipe
pub record HasLater (script : Recipe) (p : Pipe) (a b : ℕ) : Type 0 where
  pub change : ℕ
  pub from : a ≤ change
  pub before : change < b
  pub is : concerned script p change ≡ true

pub later_has : (script : Recipe) (p : Pipe) (a b : ℕ) → Later script p a b → HasLater script p a b
later_has script p a b later =
    let all = changes_of script.steps in
    let r = passes_taken (concerns p) (drop a all) (b - a) later in
    record {
      change = a + r.place;
      from = omega arith;
      before = omega (arith, r.before);
      is = ap (λ o. option_map_or (concerns p) o false) (sym (slice_get-drop all a r.place)) ∙ r.passed;
    }

pub later_from : (script : Recipe) (p : Pipe) (a b : ℕ) → HasLater script p a b → Later script p a b
later_from script p a b has =
    let all = changes_of script.steps in
    let e : a + (has.change - a) ≡ has.change = omega (arith, has.from) in
    taken_passes (concerns p) (drop a all) (b - a) (has.change - a) (omega (arith, has.from, has.before))
    (ap (λ o. option_map_or (concerns p) o false) (slice_get-drop all a (has.change - a)) ∙ ap (concerned script p) e ∙ has.is)

-- ---- earlier and later moments

-- where a change between two moments concerns the pipe, the moments rise
pub later_rises : (script : Recipe) (p : Pipe) (a b : ℕ) → Later script p a b → a < b
later_rises script p a b later = let r = later_has script p a b later in omega (arith, r.from, r.before)

-- what is between two moments is between wider ones
pub later_wider : (script : Recipe) (p : Pipe) (low a b high : ℕ) → low ≤ a → b ≤ high → Later script p a b → Later script p low high
later_wider script p low a b high below above later =
    let r = later_has script p a b later in
    later_from script p low high (record { change = r.change; from = omega (arith, r.from); before = omega (arith, r.before); is = r.is })

-- what comes after a moment, and not up to a later one, comes after that
pub later_after : (script : Recipe) (p : Pipe) (m a b : ℕ) → (Later script p m a → ⊥) → Later script p m b → Later script p a b
later_after script p m a b none later =
    let r = later_has script p m b later in
    ⊎_elim (λ (h : r.change < a). absurd (none (later_from script p m a (record { change = r.change; from = r.from; before = h; is = r.is }))))
    (λ (h : a ≤ r.change). later_from script p a b (record { change = r.change; from = h; before = r.before; is = r.is })) (cases_lt r.change a)
