-- the moment and the tickets behind the first steps of a script
use Rattle.std.proofs.Common.{◌≡◌, ℕ, zero, suc, ◌+◌, ◌<◌, ◌≤◌, Bool, true, false, cond, List, [], ◌∷◌, ◌++◌, length, take, drop, get_or, refl, sym, ap, subst, ◌∙◌, arith, Some, length-append, append_assoc, take_all}
use Rattle.std.specs.Prelude.{slice_get, option_map}
use Rattle.std.specs.List.{All}
use Rattle.std.specs.Option.{option_map_or}
use Rattle.std.proofs.lemmas.List.{take_more, take-append-drop}
use Rattle.std.proofs.lemmas.List.Elements.{All-nil, All-cons, All-append, filter-append}
use Rattle.std.proofs.lemmas.Option.{slice_get_within, slice_get-get_or, get_or_from_slice_get}
use Rattle.edit_steps.specs.declared.step.Step.{Step}
use Rattle.edit_steps.specs.declared.step.Step.TheVariants as steps
use Rattle.edit_steps.specs.Changes.{is_change, changes_of}
use Rattle.edit_steps.specs.Script.{Recipe, changes, moment_of}
use Rattle.journal.specs.declared.asking.Ask.{Ask}
use Rattle.journal.specs.Tickets.{is_ask, is_settle, moment_behind, asked_by, asks_from, asks, asked_moment}
use Rattle.journal.specs.Good.{asked, tickets_before}

-- ---- sorts of steps

-- a change asks for nothing
pub change_asks : (s : Step) → is_change s ≡ true → is_ask s ≡ false
change_asks (steps.Edit edit) e = refl
change_asks steps.Undo e = refl
change_asks steps.Redo e = refl
change_asks (steps.View view) e = refl
change_asks (steps.Second view) e = refl
change_asks (steps.Export size depth) e = cc
change_asks (steps.Thumbnail size) e = cc
change_asks steps.Settle e = cc

-- a step that asks for a picture is no change
pub ask_changes : (s : Step) → is_ask s ≡ true → is_change s ≡ false
ask_changes (steps.Edit edit) e = cc
ask_changes steps.Undo e = cc
ask_changes steps.Redo e = cc
ask_changes (steps.View view) e = cc
ask_changes (steps.Second view) e = cc
ask_changes (steps.Export size depth) e = refl
ask_changes (steps.Thumbnail size) e = refl
ask_changes steps.Settle e = cc

pub settle_is : (s : Step) → is_settle s ≡ true → s ≡ steps.Settle
settle_is (steps.Edit edit) e = cc
settle_is steps.Undo e = cc
settle_is steps.Redo e = cc
settle_is (steps.View view) e = cc
settle_is (steps.Second view) e = cc
settle_is (steps.Export size depth) e = cc
settle_is (steps.Thumbnail size) e = cc
settle_is steps.Settle e = refl

-- ---- one step more

take_step : (xs : List Step) (n : ℕ) (s : Step) → slice_get xs n ≡ Some s → take (n + 1) xs ≡ take n xs ++ s ∷ []
take_step xs n s at = take_more xs n s (slice_get_within xs n s at) ∙ ap (λ y. take n xs ++ y ∷ []) (get_or_from_slice_get xs n s s at)

length_one : {X : Type 0} → (x : X) (b : Bool) → length (cond {A = List X} b (x ∷ []) []) ≡ cond b 1 0
length_one x true = refl
length_one x false = refl

-- the moment behind one step more
pub moment_of-step : (script : Recipe) (n : ℕ) (s : Step) → slice_get script.steps n ≡ Some s
    → moment_of script (n + 1) ≡ moment_of script n + cond (is_change s) 1 0
moment_of-step script n s at =
    ap (λ xs. length (changes_of xs)) (take_step script.steps n s at) ∙ ap length (filter-append is_change (take n script.steps) (s ∷ []))
    ∙ length-append (changes_of (take n script.steps)) (changes_of (s ∷ [])) ∙ ap (λ x. moment_of script n + x) (length_one s (is_change s))

first_change : (m : ℕ) (s : Step) (ss : List Step) → moment_behind m s + length (changes_of ss) ≡ m + length (changes_of (s ∷ ss))
first_change m s ss = told (is_change s)
  where
    told : (b : Bool) → cond b (m + 1) m + length (changes_of ss) ≡ m + length (cond b (s ∷ changes_of ss) (changes_of ss))
    told true = omega arith
    told false = refl

asks_from-append : (m : ℕ) (xs ys : List Step) → asks_from m (xs ++ ys) ≡ asks_from m xs ++ asks_from (m + length (changes_of xs)) ys
asks_from-append m [] ys = let e : m ≡ m + 0 = omega arith in ap (λ k. asks_from k ys) e
asks_from-append m (x ∷ xs) ys =
    ap (λ rest. asked_by m x ++ rest) (asks_from-append (moment_behind m x) xs ys ∙ ap (λ k. asks_from (moment_behind m x) xs ++ asks_from k ys) (first_change m x xs))
    ∙ sym (append_assoc (asked_by m x) (asks_from (moment_behind m x) xs) (asks_from (m + length (changes_of (x ∷ xs))) ys))

-- the tickets of one step more
pub tickets_before-step : (script : Recipe) (n : ℕ) (s : Step) → slice_get script.steps n ≡ Some s
    → tickets_before script (n + 1) ≡ tickets_before script n + cond (is_ask s) 1 0
tickets_before-step script n s at =
    let front = take n script.steps in
    let m = length (changes_of front) in
    ap (λ xs. length (asks_from 0 xs)) (take_step script.steps n s at) ∙ ap length (asks_from-append 0 front (s ∷ []))
    ∙ length-append (asks_from 0 front) (asks_from (0 + m) (s ∷ []))
    ∙ ap (λ x. tickets_before script n + x)
    (length-append (asked_by (0 + m) s) [] ∙ ap (λ k. k + 0) (length_one {X = Ask} (record { moment = 0 + m; step = s }) (is_ask s)) ∙ plus_none (cond (is_ask s) 1 0))
  where
    plus_none : (k : ℕ) → k + 0 ≡ k
    plus_none k = omega arith

-- behind all steps
pub moment_of-all : (script : Recipe) → moment_of script (length script.steps) ≡ changes script
moment_of-all script = ap (λ xs. length (changes_of xs)) (take_all (length script.steps) script.steps (omega arith))

pub tickets_before-all : (script : Recipe) → tickets_before script (length script.steps) ≡ length (asks script)
tickets_before-all script = ap (λ xs. length (asks_from 0 xs)) (take_all (length script.steps) script.steps (omega arith))

-- ---- the first steps among all

steps_split : (script : Recipe) (n : ℕ) → script.steps ≡ take n script.steps ++ drop n script.steps
steps_split script n = sym (take-append-drop n script.steps)

pub moment_of-within : (script : Recipe) (n : ℕ) → moment_of script n ≤ changes script
moment_of-within script n =
    let e = ap (λ xs. length (changes_of xs)) (steps_split script n) in
    let f = ap length (filter-append is_change (take n script.steps) (drop n script.steps)) in
    let g = length-append (changes_of (take n script.steps)) (changes_of (drop n script.steps)) in
    omega (arith, e, f, g)

asks_split : (script : Recipe) (n : ℕ) → asks script ≡ asks_from 0 (take n script.steps) ++ asks_from (0 + moment_of script n) (drop n script.steps)
asks_split script n = ap (asks_from 0) (steps_split script n) ∙ asks_from-append 0 (take n script.steps) (drop n script.steps)

-- each moment at which something is asked is at most the last
asks_small : (m top : ℕ) (xs : List Step) → m + length (changes_of xs) ≤ top → All (λ (a : Ask). a.moment ≤ top) (asks_from m xs)
asks_small m top [] small = All-nil (λ (a : Ask). a.moment ≤ top)
asks_small m top (x ∷ xs) small =
    All-append (λ (a : Ask). a.moment ≤ top) (asked_by m x) (asks_from (moment_behind m x) xs) (first (is_ask x))
    (asks_small (moment_behind m x) top xs (omega (arith, small, first_change m x xs)))
  where
    first : (b : Bool) → All (λ (a : Ask). a.moment ≤ top) (cond {A = List Ask} b ((record { moment = m; step = x }) ∷ []) [])
    first true = All-cons (λ (a : Ask). a.moment ≤ top) _ [] (omega (arith, small)) (All-nil _)
    first false = All-nil _

slice_get-front : {X : Type 0} → (xs ys : List X) (k : ℕ) → k < length xs → slice_get (xs ++ ys) k ≡ slice_get xs k
slice_get-front [] ys k less = absurd (omega arith)
slice_get-front (x ∷ xs) ys zero less = refl
slice_get-front (x ∷ xs) ys (suc k) less = slice_get-front xs ys k (omega arith)

-- a ticket that the first steps ask for is the script's, and its moment is at most theirs
pub record IsAskedIn (script : Recipe) (n t : ℕ) : Type 0 where
  pub known : asked script t ≡ Some (asked_moment script t)
  pub early : asked_moment script t ≤ moment_of script n

pub asked_in : (script : Recipe) (n t : ℕ) → 1 ≤ t → t ≤ tickets_before script n → IsAskedIn script n t
asked_in script n zero low high = absurd (omega (arith, low))
asked_in script n (suc k) low high =
    let front = asks_from 0 (take n script.steps) in
    let within : k < length front = omega (arith, high) in
    let none : Ask = record { moment = 0; step = steps.Settle } in
    let is : slice_get (asks script) k ≡ Some (get_or front k none) =
    ap (λ all. slice_get all k) (asks_split script n) ∙ slice_get-front front _ k within ∙ slice_get-get_or front k none within in
    let e : asked_moment script (suc k) ≡ (get_or front k none).moment = ap (λ o. option_map_or (λ (a : Ask). a.moment) o 0) is in
    let small = asks_small 0 (moment_of script n) (take n script.steps) (omega arith) k none within in
    record { known = ap (option_map (λ (a : Ask). a.moment)) is ∙ ap Some (sym e); early = subst (λ m. m ≤ moment_of script n) (sym e) small }

pub tickets_before-within : (script : Recipe) (n : ℕ) → tickets_before script n ≤ length (asks script)
tickets_before-within script n =
    let e = ap length (asks_split script n) in
    let f = length-append (asks_from 0 (take n script.steps)) (asks_from (0 + moment_of script n) (drop n script.steps)) in
    omega (arith, e, f)
