-- Lemmas on the faults of steps.
use Rattle.std.proofs.Common.{◌≡◌, ℕ, ◌+◌, ◌≤◌, Bool, true, false, cond, List, [], ◌∷◌, ◌++◌, length, refl, sym, ap, ◌∙◌, subst, arith, append_assoc, zero-add, Option, Some, None}
use Rattle.std.specs.Prelude.{count_by, nat_le, option_map, ⊤}
use Rattle.std.specs.Option.{option_or}
use Rattle.std.proofs.lemmas.Bool.{leb-false}
use Rattle.std.proofs.lemmas.List.Sums.{sum_by-append, length-filter}
use Rattle.std.proofs.lemmas.List.{append-nil}
use Rattle.history.specs.Stack.{Stack}
use Rattle.edit_steps.specs.declared.settings.Settings.{Settings}
use Rattle.edit_steps.specs.declared.step.Step.{Step}
use Rattle.edit_steps.specs.declared.step.Step.TheVariants as steps
use Rattle.edit_steps.specs.declared.fault.Reason.{Reason}
use Rattle.edit_steps.specs.declared.fault.Reason.TheVariants as reasons
use Rattle.edit_steps.specs.declared.fault.ScriptFault.{ScriptFault}
use Rattle.edit_steps.specs.Changes.{is_change, changes_of, Histories, first_histories, histories_behind, histories_after}
use Rattle.edit_steps.specs.Faults.{is_export, is_thumbnail, is_settle, refuse_from, change_limit, limit_fault, window_fault, history_fault, step_fault, fault_behind, next_fault, steps_fault}
use Rattle.edit_steps.proofs.ChangeLemmas.{histories_after-append}

or_none : {X : Type 0} (o : Option X) → option_or o None ≡ o
or_none None = refl
or_none (Some x) = refl

or_assoc : {X : Type 0} (a b c : Option X) → option_or a (option_or b c) ≡ option_or (option_or a b) c
or_assoc None b c = refl
or_assoc (Some x) b c = refl

none_first : {X : Type 0} (a b : Option X) → option_or a b ≡ None → a ≡ None
none_first None b e = refl
none_first (Some x) b e = e

none_last : {X : Type 0} (a b : Option X) → option_or a b ≡ None → b ≡ None
none_last None b e = e
none_last (Some x) b e = cc

none_mapped : {X Y : Type 0} (f : X → Y) (o : Option X) → option_map f o ≡ None → o ≡ None
none_mapped f None e = refl
none_mapped f (Some x) e = cc

-- the first fault of steps with more behind them
pub steps_fault-append : (settings : Settings) (opening : Stack) (before xs ys : List Step) →
    steps_fault settings opening before (xs ++ ys) ≡ option_or (steps_fault settings opening before xs) (steps_fault settings opening (before ++ xs) ys)
steps_fault-append settings opening before [] ys = ap (λ b. steps_fault settings opening b ys) (sym (append-nil before))
steps_fault-append settings opening before (x ∷ xs) ys =
    ap (option_or (next_fault settings opening before x)) (steps_fault-append settings opening (before ++ x ∷ []) xs ys)
    ∙ or_assoc (next_fault settings opening before x) (steps_fault settings opening (before ++ x ∷ []) xs) (steps_fault settings opening ((before ++ x ∷ []) ++ xs) ys)
    ∙ ap (λ b. option_or (option_or (next_fault settings opening before x) (steps_fault settings opening (before ++ x ∷ []) xs)) (steps_fault settings opening b ys)) (append_assoc before (x ∷ []) xs)

pub steps_fault-push : (settings : Settings) (opening : Stack) (xs : List Step) (s : Step) → steps_fault settings opening [] xs ≡ None → next_fault settings opening xs s ≡ None → steps_fault settings opening [] (xs ++ s ∷ []) ≡ None
steps_fault-push settings opening xs s none last =
    steps_fault-append settings opening [] xs (s ∷ []) ∙ ap (λ o. option_or o (steps_fault settings opening xs (s ∷ []))) none ∙ or_none (next_fault settings opening xs s) ∙ last

-- a step that follows steps without a fault
pub steps_fault-more : (settings : Settings) (opening : Stack) (xs : List Step) (s : Step) → steps_fault settings opening [] xs ≡ None → step_fault settings opening xs s ≡ None → steps_fault settings opening [] (xs ++ s ∷ []) ≡ None
steps_fault-more settings opening xs s none last =
    steps_fault-push settings opening xs s none (ap (option_map (fault_behind xs)) last)

-- the first fault, at a step behind steps without one
pub steps_fault-at : (settings : Settings) (opening : Stack) (xs : List Step) (s : Step) (rest : List Step) (fault : ScriptFault) → steps_fault settings opening [] xs ≡ None → next_fault settings opening xs s ≡ Some fault → steps_fault settings opening [] (xs ++ s ∷ rest) ≡ Some fault
steps_fault-at settings opening xs s rest fault none first =
    steps_fault-append settings opening [] xs (s ∷ rest) ∙ ap (λ o. option_or o (steps_fault settings opening xs (s ∷ rest))) none ∙ ap (λ o. option_or o (steps_fault settings opening (xs ++ s ∷ []) rest)) first

-- ---- limits

-- as many steps of each sort as a script may have
pub record AreFew (xs : List Step) : Type 0 where
  pub changes : count_by is_change xs ≤ 256
  pub exports : count_by is_export xs ≤ 8
  pub thumbnails : count_by is_thumbnail xs ≤ 16
  pub settles : count_by is_settle xs ≤ 256

AreFew-none : AreFew []
AreFew-none = record { changes = omega arith; exports = omega arith; thumbnails = omega arith; settles = omega arith }

count-push : (passes : Step → Bool) (xs : List Step) (s : Step) → count_by passes (xs ++ s ∷ []) ≡ count_by passes xs + cond (passes s) 1 0
count-push passes xs s = sum_by-append (λ x. cond (passes x) 1 0) xs (s ∷ []) ∙ ap (λ n. count_by passes xs + n) (zero-add (cond (passes s) 1 0))

count-cons : (passes : Step → Bool) (s : Step) (xs : List Step) → count_by passes (s ∷ xs) ≡ cond (passes s) 1 0 + count_by passes xs
count-cons passes s xs = sum_by-append (λ x. cond (passes x) 1 0) (s ∷ []) xs ∙ ap (λ n. n + count_by passes xs) (zero-add (cond (passes s) 1 0))

-- a step of another sort
kept : (passes : Step → Bool) (most : ℕ) (xs : List Step) (s : Step) → passes s ≡ false → count_by passes xs ≤ most → count_by passes (xs ++ s ∷ []) ≤ most
kept passes most xs s other few =
    let pushed : count_by passes (xs ++ s ∷ []) ≡ count_by passes xs + 0 = count-push passes xs s ∙ ap (λ b. count_by passes xs + cond b 1 0) other in
    omega (arith, pushed, few)

open_from : (b : Bool) (reason : Reason) → cond b (Some reason) None ≡ None → b ≡ false
open_from true reason none = cc
open_from false reason none = refl

at_most_one : (b : Bool) → cond b 1 0 ≤ 1
at_most_one true = omega arith
at_most_one false = omega arith

-- a step of a sort that isn't full
more : (passes : Step → Bool) (most : ℕ) (reason : Reason) (xs : List Step) (s : Step) → refuse_from most reason passes xs ≡ None → count_by passes (xs ++ s ∷ []) ≤ most
more passes most reason xs s none =
    let below = leb-false most (count_by passes xs) (open_from (nat_le most (count_by passes xs)) reason none) in
    omega (arith, count-push passes xs s, below, at_most_one (passes s))

-- a change that isn't one too many
AreFew-change : (xs : List Step) (s : Step) → is_export s ≡ false → is_thumbnail s ≡ false → is_settle s ≡ false → AreFew xs → change_limit xs ≡ None → AreFew (xs ++ s ∷ [])
AreFew-change xs s no_export no_thumbnail no_settle few none = record {
  changes = more is_change 256 reasons.TooManyChanges xs s none;
  exports = kept is_export 8 xs s no_export few.exports;
  thumbnails = kept is_thumbnail 16 xs s no_thumbnail few.thumbnails;
  settles = kept is_settle 256 xs s no_settle few.settles;
}

AreFew-more : (xs : List Step) (s : Step) → AreFew xs → limit_fault xs s ≡ None → AreFew (xs ++ s ∷ [])
AreFew-more xs (steps.Edit e) few none = AreFew-change xs (steps.Edit e) refl refl refl few none
AreFew-more xs steps.Undo few none = AreFew-change xs steps.Undo refl refl refl few none
AreFew-more xs steps.Redo few none = AreFew-change xs steps.Redo refl refl refl few none
AreFew-more xs (steps.View v) few none = AreFew-change xs (steps.View v) refl refl refl few none
AreFew-more xs (steps.Second v) few none = AreFew-change xs (steps.Second v) refl refl refl few none
AreFew-more xs (steps.Export size depth) few none = record {
  changes = kept is_change 256 xs (steps.Export size depth) refl few.changes;
  exports = more is_export 8 reasons.TooManyExports xs (steps.Export size depth) none;
  thumbnails = kept is_thumbnail 16 xs (steps.Export size depth) refl few.thumbnails;
  settles = kept is_settle 256 xs (steps.Export size depth) refl few.settles;
}
AreFew-more xs (steps.Thumbnail size) few none = record {
  changes = kept is_change 256 xs (steps.Thumbnail size) refl few.changes;
  exports = kept is_export 8 xs (steps.Thumbnail size) refl few.exports;
  thumbnails = more is_thumbnail 16 reasons.TooManyThumbnails xs (steps.Thumbnail size) none;
  settles = kept is_settle 256 xs (steps.Thumbnail size) refl few.settles;
}
AreFew-more xs steps.Settle few none = record {
  changes = kept is_change 256 xs steps.Settle refl few.changes;
  exports = kept is_export 8 xs steps.Settle refl few.exports;
  thumbnails = kept is_thumbnail 16 xs steps.Settle refl few.thumbnails;
  settles = more is_settle 256 reasons.TooManySettles xs steps.Settle none;
}

-- steps without a fault behind few steps
AreFew-steps : (settings : Settings) (opening : Stack) (before xs : List Step) → AreFew before → steps_fault settings opening before xs ≡ None → AreFew (before ++ xs)
AreFew-steps settings opening before [] few none = subst AreFew (sym (append-nil before)) few
AreFew-steps settings opening before (x ∷ xs) few none =
    let first = none_mapped (fault_behind before) (step_fault settings opening before x) (none_first (next_fault settings opening before x) (steps_fault settings opening (before ++ x ∷ []) xs) none) in
    let limit = none_first (limit_fault before x) (option_or (window_fault settings x) (history_fault (histories_after (first_histories settings opening) before) x)) first in
    let rest = none_last (next_fault settings opening before x) (steps_fault settings opening (before ++ x ∷ []) xs) none in
    subst AreFew (append_assoc before (x ∷ []) xs) (AreFew-steps settings opening (before ++ x ∷ []) xs (AreFew-more before x few limit) rest)

one_sort : (s : Step) → cond (is_change s) 1 0 + (cond (is_export s) 1 0 + (cond (is_thumbnail s) 1 0 + cond (is_settle s) 1 0)) ≡ 1
one_sort (steps.Edit e) = refl
one_sort steps.Undo = refl
one_sort steps.Redo = refl
one_sort (steps.View v) = refl
one_sort (steps.Second v) = refl
one_sort (steps.Export size depth) = refl
one_sort (steps.Thumbnail size) = refl
one_sort steps.Settle = refl

-- each step is of one sort
length-sorts : (xs : List Step) → length xs ≡ count_by is_change xs + (count_by is_export xs + (count_by is_thumbnail xs + count_by is_settle xs))
length-sorts [] = refl
length-sorts (x ∷ xs) =
    let sorts = length-sorts xs in
    omega (arith, sorts, count-cons is_change x xs, count-cons is_export x xs, count-cons is_thumbnail x xs, count-cons is_settle x xs, one_sort x)

-- a script has at most 536 steps, of which 256 are changes
pub steps-few : (settings : Settings) (opening : Stack) (xs : List Step) → steps_fault settings opening [] xs ≡ None → length xs ≤ 536
steps-few settings opening xs none =
    let few = AreFew-steps settings opening [] xs AreFew-none none in
    omega (arith, length-sorts xs, few.changes, few.exports, few.thumbnails, few.settles)

pub changes-few : (settings : Settings) (opening : Stack) (xs : List Step) → steps_fault settings opening [] xs ≡ None → length (changes_of xs) ≤ 256
changes-few settings opening xs none =
    let few = AreFew-steps settings opening [] xs AreFew-none none in
    omega (arith, length-filter is_change xs, few.changes)

-- ---- histories

-- each step is allowed on the histories before it
abbrev pub AreAllowed : Histories → List Step → Type 0
AreAllowed hs [] = ⊤
AreAllowed hs (x ∷ xs) = (history_fault hs x ≡ None) × AreAllowed (histories_behind hs x) xs

AreAllowed-steps : (settings : Settings) (opening : Stack) (before xs : List Step) → steps_fault settings opening before xs ≡ None → AreAllowed (histories_after (first_histories settings opening) before) xs
AreAllowed-steps settings opening before [] none = tt
AreAllowed-steps settings opening before (x ∷ xs) none =
    let first = none_mapped (fault_behind before) (step_fault settings opening before x) (none_first (next_fault settings opening before x) (steps_fault settings opening (before ++ x ∷ []) xs) none) in
    let rest = none_last (next_fault settings opening before x) (steps_fault settings opening (before ++ x ∷ []) xs) none in (
      none_last (window_fault settings x) (history_fault (histories_after (first_histories settings opening) before) x) (none_last (limit_fault before x) (option_or (window_fault settings x) (history_fault (histories_after (first_histories settings opening) before) x)) first),
      subst (λ hs. AreAllowed hs xs) (histories_after-append (first_histories settings opening) before (x ∷ [])) (AreAllowed-steps settings opening (before ++ x ∷ []) xs rest),
    )

-- the steps of a script are allowed one after the other
pub AreAllowed-all : (settings : Settings) (opening : Stack) (xs : List Step) → steps_fault settings opening [] xs ≡ None → AreAllowed (first_histories settings opening) xs
AreAllowed-all settings opening xs none = AreAllowed-steps settings opening [] xs none
