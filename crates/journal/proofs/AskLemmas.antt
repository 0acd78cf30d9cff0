-- what a ticket asks for is a step of the script
use Rattle.std.proofs.Common.{◌≡◌, ℕ, zero, suc, ◌+◌, ◌<◌, ◌≤◌, List, [], ◌∷◌, ◌++◌, length, take, drop, refl, sym, ap, subst, ◌∙◌, arith, Bool, true, false, cond, Option, Some, None, get_or, ⊎_elim}
use Rattle.std.specs.Prelude.{slice_get, IfSome}
use Rattle.std.proofs.lemmas.List.{take-append-drop, length-append}
use Rattle.std.proofs.lemmas.List.Elements.{filter-append, All-get_or}
use Rattle.std.proofs.lemmas.Option.{slice_get_within, get_or_from_slice_get, slice_get_cases}
use Rattle.edit_steps.specs.declared.step.Step.{Step}
use Rattle.edit_steps.specs.Changes.{is_change, changes_of}
use Rattle.edit_steps.specs.Ranges.{IsStepWithin}
use Rattle.edit_steps.specs.Script.{Recipe, IsScript, changes}
use Rattle.journal.specs.declared.asking.Ask.{Ask}
use Rattle.journal.specs.Tickets.{is_ask, moment_behind, asked_by, asks_from, asks, numbered, ask_of}

-- the first steps have at most the changes of all
pub changes_front : (xs : List Step) (k : ℕ) → length (changes_of (take k xs)) ≤ length (changes_of xs)
changes_front xs k =
    let all : length (changes_of xs) ≡ length (changes_of (take k xs)) + length (changes_of (drop k xs)) =
    ap (λ ys. length (changes_of ys)) (sym (take-append-drop k xs)) ∙ ap length (filter-append is_change (take k xs) (drop k xs)) ∙ length-append (changes_of (take k xs)) (changes_of (drop k xs)) in
    omega (arith, all)

-- the changes before a place, counted on behind the first step
front_behind : (m : ℕ) (x : Step) (xs : List Step) (j : ℕ) → moment_behind m x + length (changes_of (take j xs)) ≡ m + length (changes_of (take (suc j) (x ∷ xs)))
front_behind m x xs j =
    elim (is_change x) as (λ b. cond b (m + 1) m + length (changes_of (take j xs)) ≡ m + length (cond b (x ∷ changes_of (take j xs)) (changes_of (take j xs))))
    [ true ↦ omega arith | false ↦ refl ]

-- a step that asks, at its place among the steps, with the number of changes before it
pub record IsAskAt (m : ℕ) (xs : List Step) (a : Ask) : Type 0 where
  pub place : ℕ
  pub stands : slice_get xs place ≡ Some a.step
  pub asks_it : is_ask a.step ≡ true
  pub moment : a.moment ≡ m + length (changes_of (take place xs))

ask_later : (m : ℕ) (x : Step) (xs : List Step) (a : Ask) → IsAskAt (moment_behind m x) xs a → IsAskAt m (x ∷ xs) a
ask_later m x xs a at = record { place = suc at.place; stands = at.stands; asks_it = at.asks_it; moment = at.moment ∙ front_behind m x xs at.place }

pub asks-found : (m : ℕ) (xs : List Step) (k : ℕ) (a : Ask) → slice_get (asks_from m xs) k ≡ Some a → IsAskAt m xs a
asks-found m [] k a e = absurd cc
asks-found m (x ∷ xs) k a e =
    (elim (is_ask x) as (λ b. is_ask x ≡ b → slice_get (cond b ((record { moment = m; step = x }) ∷ []) [] ++ asks_from (moment_behind m x) xs) k ≡ Some a → IsAskAt m (x ∷ xs) a) [
      | true ↦ λ asked h. first (λ j. asks-found (moment_behind m x) xs j a) k asked h
      | false ↦ λ _ h. ask_later m x xs a (asks-found (moment_behind m x) xs k a h)
    ]) refl e
  where
    first : ((j : ℕ) → slice_get (asks_from (moment_behind m x) xs) j ≡ Some a → IsAskAt (moment_behind m x) xs a) → (k : ℕ) → is_ask x ≡ true → slice_get ((record { moment = m; step = x }) ∷ asks_from (moment_behind m x) xs) k ≡ Some a → IsAskAt m (x ∷ xs) a
    first on zero asked h =
        let same : record { moment = m; step = x } ≡ a = cc in
        let step : x ≡ a.step = ap (λ (y : Ask). y.step) same in
        record { place = 0; stands = ap Some step; asks_it = subst (λ s. is_ask s ≡ true) step asked; moment = omega (arith, ap (λ (y : Ask). y.moment) same) }
    first on (suc j) asked h = ask_later m x xs a (on j h)

-- what a ticket asks for
pub ask_of-found : (r : Recipe) (t : ℕ) (a : Ask) → ask_of r t ≡ Some a → IsAskAt 0 r.steps a
ask_of-found r zero a e = absurd cc
ask_of-found r (suc k) a e = asks-found 0 r.steps k a e

pub ask_of-moment : (r : Recipe) (t : ℕ) (a : Ask) → ask_of r t ≡ Some a → a.moment ≤ changes r
ask_of-moment r t a e = let at = ask_of-found r t a e in omega (arith, at.moment, changes_front r.steps at.place)

-- its numbers are within their ranges
pub ask_of-within : (r : Recipe) (t : ℕ) (a : Ask) → IsScript r → ask_of r t ≡ Some a → IsStepWithin a.step
ask_of-within r t a script e =
    let at = ask_of-found r t a e in
    let within = slice_get_within r.steps at.place a.step at.stands in
    subst IsStepWithin (get_or_from_slice_get r.steps at.place a.step a.step at.stands) (All-get_or IsStepWithin r.steps at.place a.step within script.within)

-- what is said of what a ticket asks for, where there is such a ticket
pub ask-within : (r : Recipe) (t : ℕ) (o : Option Ask) → IsScript r → o ≡ ask_of r t → IfSome o (λ a. IsStepWithin a.step)
ask-within r t None script e = tt
ask-within r t (Some a) script e = ask_of-within r t a script (sym e)

pub ask-moment : (r : Recipe) (t : ℕ) (o : Option Ask) → o ≡ ask_of r t → IfSome o (λ a. a.moment ≤ changes r)
ask-moment r t None e = tt
ask-moment r t (Some a) e = ask_of-moment r t a (sym e)

-- the first steps ask for no more than all
pub asks_front : (m : ℕ) (xs : List Step) (k : ℕ) → length (asks_from m (take k xs)) ≤ length (asks_from m xs)
asks_front m [] zero = omega arith
asks_front m [] (suc k) = omega arith
asks_front m (x ∷ xs) zero = omega arith
asks_front m (x ∷ xs) (suc k) =
    omega (
      arith,
      asks_front (moment_behind m x) xs k,
      length-append (asked_by m x) (asks_from (moment_behind m x) (take k xs)),
      length-append (asked_by m x) (asks_from (moment_behind m x) xs),
    )

-- a number within those that are asked for is a ticket
pub ask-there : (r : Recipe) (t : ℕ) (o : Option Ask) → 1 ≤ t → t ≤ length (asks r) → o ≡ ask_of r t → ((a : Ask) → o ≡ Some a → ⊥) → ⊥
ask-there r zero o some few is none = omega arith
ask-there r (suc k) o some few is none =
    ⊎_elim (λ (h : (a : Ask) × (k < length (asks r)) × (slice_get (asks r) k ≡ Some a) × (get_or (asks r) k a ≡ a)). none h.0 (is ∙ h.2))
    (λ (h : (length (asks r) ≤ k) × (slice_get (asks r) k ≡ None)). let past = h.0 in omega arith) (slice_get_cases (asks r) k).1
