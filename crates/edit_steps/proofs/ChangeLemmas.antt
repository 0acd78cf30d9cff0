-- Lemmas on changes, and on what stands behind them.
use Rattle.std.proofs.Common.{◌≡◌, ℕ, zero, suc, ◌-◌, ◌≤◌, Bool, true, false, ◌||◌, List, [], ◌∷◌, ◌++◌, take, drop, refl, sym, ap, ◌∙◌, cond, arith, Option, Some, None}
use Rattle.std.specs.Prelude.{slice_range, is_some, IfSome}
use Rattle.std.specs.List.{All, list_any}
use Rattle.std.proofs.Math.Seq.{take-nil}
use Rattle.std.proofs.lemmas.Bool.{false≢true}
use Rattle.std.proofs.lemmas.List.Elements.{All-head, All-tail}
use Rattle.px.specs.declared.view.View.{View}
use Rattle.history.specs.declared.edits.Edit.{Edit}
use Rattle.history.specs.declared.edits.Edit.TheVariants as edits
use Rattle.history.specs.declared.changes.Kind.TheVariants as kind
use Rattle.history.specs.Stack.{Stack}
use Rattle.history.specs.After.{after, kind_of, overwrites, live_items}
use Rattle.undo_stack.specs.Undoing.{changed}
use Rattle.edit_steps.specs.declared.step.Step.{Step}
use Rattle.edit_steps.specs.declared.step.Step.TheVariants as steps
use Rattle.edit_steps.specs.Ranges.{IsView, IsStepWithin}
use Rattle.edit_steps.specs.Changes.{is_change, Histories, histories_behind, histories_after, view_behind, view_after, other_view, second_behind, second_after, change_kind, kinds_along, is_top, is_synch, is_remove}

-- ---- histories

pub histories_after-append : (hs : Histories) (xs ys : List Step) → histories_after hs (xs ++ ys) ≡ histories_after (histories_after hs xs) ys
histories_after-append hs [] ys = refl
histories_after-append hs (x ∷ xs) ys = histories_after-append (histories_behind hs x) xs ys

-- a step that is no change leaves the histories
pub histories_behind-same : (hs : Histories) (s : Step) → is_change s ≡ false → histories_behind hs s ≡ hs
histories_behind-same hs (steps.Edit edit) e = cc
histories_behind-same hs steps.Undo e = cc
histories_behind-same hs steps.Redo e = cc
histories_behind-same hs (steps.View view) e = refl
histories_behind-same hs (steps.Second view) e = refl
histories_behind-same hs (steps.Export size depth) e = refl
histories_behind-same hs (steps.Thumbnail size) e = refl
histories_behind-same hs steps.Settle e = refl

-- ---- views

pub view_after-append : (v : View) (xs ys : List Step) → view_after v (xs ++ ys) ≡ view_after (view_after v xs) ys
view_after-append v [] ys = refl
view_after-append v (x ∷ xs) ys = view_after-append (view_behind v x) xs ys

pub second_after-append : (w : Option View) (xs ys : List Step) → second_after w (xs ++ ys) ≡ second_after (second_after w xs) ys
second_after-append w [] ys = refl
second_after-append w (x ∷ xs) ys = second_after-append (second_behind w x) xs ys

pub view_behind-same : (v : View) (s : Step) → is_change s ≡ false → view_behind v s ≡ v
view_behind-same v (steps.Edit edit) e = refl
view_behind-same v steps.Undo e = refl
view_behind-same v steps.Redo e = refl
view_behind-same v (steps.View view) e = cc
view_behind-same v (steps.Second view) e = refl
view_behind-same v (steps.Export size depth) e = refl
view_behind-same v (steps.Thumbnail size) e = refl
view_behind-same v steps.Settle e = refl

pub second_behind-same : (w : Option View) (s : Step) → is_change s ≡ false → second_behind w s ≡ w
second_behind-same w (steps.Edit edit) e = refl
second_behind-same w steps.Undo e = refl
second_behind-same w steps.Redo e = refl
second_behind-same w (steps.View view) e = refl
second_behind-same w (steps.Second view) e = cc
second_behind-same w (steps.Export size depth) e = refl
second_behind-same w (steps.Thumbnail size) e = refl
second_behind-same w steps.Settle e = refl

view_behind-within : (v : View) (s : Step) → IsView v → IsStepWithin s → IsView (view_behind v s)
view_behind-within v (steps.Edit edit) is within = is
view_behind-within v steps.Undo is within = is
view_behind-within v steps.Redo is within = is
view_behind-within v (steps.View view) is within = within
view_behind-within v (steps.Second view) is within = is
view_behind-within v (steps.Export size depth) is within = is
view_behind-within v (steps.Thumbnail size) is within = is
view_behind-within v steps.Settle is within = is

-- the view behind steps within their ranges is within its own
pub view_after-within : (v : View) (xs : List Step) → IsView v → All IsStepWithin xs → IsView (view_after v xs)
view_after-within v [] is within = is
view_after-within v (x ∷ xs) is within =
    view_after-within (view_behind v x) xs (view_behind-within v x is (All-head IsStepWithin x xs within)) (All-tail IsStepWithin x xs within)

other_view-within : (w : Option View) (view : View) → IsView view → IfSome (other_view w view) IsView
other_view-within None view within = tt
other_view-within (Some v) view within = within

second_behind-within : (w : Option View) (s : Step) → IfSome w IsView → IsStepWithin s → IfSome (second_behind w s) IsView
second_behind-within w (steps.Edit edit) is within = is
second_behind-within w steps.Undo is within = is
second_behind-within w steps.Redo is within = is
second_behind-within w (steps.View view) is within = is
second_behind-within w (steps.Second view) is within = other_view-within w view within
second_behind-within w (steps.Export size depth) is within = is
second_behind-within w (steps.Thumbnail size) is within = is
second_behind-within w steps.Settle is within = is

pub second_after-within : (w : Option View) (xs : List Step) → IfSome w IsView → All IsStepWithin xs → IfSome (second_after w xs) IsView
second_after-within w [] is within = is
second_after-within w (x ∷ xs) is within =
    second_after-within (second_behind w x) xs (second_behind-within w x is (All-head IsStepWithin x xs within)) (All-tail IsStepWithin x xs within)

other_view-there : (w : Option View) (view : View) → is_some (other_view w view) ≡ is_some w
other_view-there None view = refl
other_view-there (Some v) view = refl

second_behind-there : (w : Option View) (s : Step) → is_some (second_behind w s) ≡ is_some w
second_behind-there w (steps.Edit edit) = refl
second_behind-there w steps.Undo = refl
second_behind-there w steps.Redo = refl
second_behind-there w (steps.View view) = refl
second_behind-there w (steps.Second view) = other_view-there w view
second_behind-there w (steps.Export size depth) = refl
second_behind-there w (steps.Thumbnail size) = refl
second_behind-there w steps.Settle = refl

-- no step opens or closes the second window
pub second_after-there : (w : Option View) (xs : List Step) → is_some (second_after w xs) ≡ is_some w
second_after-there w [] = refl
second_after-there w (x ∷ xs) = second_after-there (second_behind w x) xs ∙ second_behind-there w x

-- ---- kinds

take-kinds_along : (hs : Histories) (xs : List Step) (n : ℕ) → take n (kinds_along hs xs) ≡ kinds_along hs (take n xs)
take-kinds_along hs [] zero = refl
take-kinds_along hs [] (suc n) = refl
take-kinds_along hs (x ∷ xs) zero = refl
take-kinds_along hs (x ∷ xs) (suc n) = ap (λ ks. change_kind hs x ∷ ks) (take-kinds_along (histories_behind hs x) xs n)

drop-kinds_along : (hs : Histories) (xs : List Step) (n : ℕ) → drop n (kinds_along hs xs) ≡ kinds_along (histories_after hs (take n xs)) (drop n xs)
drop-kinds_along hs [] zero = refl
drop-kinds_along hs [] (suc n) = refl
drop-kinds_along hs (x ∷ xs) zero = refl
drop-kinds_along hs (x ∷ xs) (suc n) = drop-kinds_along (histories_behind hs x) xs n

-- a part of the kinds is the kinds of that part
pub range-kinds_along : (hs : Histories) (xs : List Step) (from to : ℕ) → slice_range (kinds_along hs xs) from to ≡ kinds_along (histories_after hs (take from xs)) (slice_range xs from to)
range-kinds_along hs xs from to =
    ap (take (to - from)) (drop-kinds_along hs xs from) ∙ take-kinds_along (histories_after hs (take from xs)) (drop from xs) (to - from)

-- an edit has a kind that tells of the history
edit_tells : (h : Stack) (e : Edit) → (is_top (kind_of h e) || (is_synch (kind_of h e) || is_remove (kind_of h e))) ≡ true
edit_tells h (edits.Set item) =
    elim (overwrites (live_items h) item) as (λ b. (is_top (cond b kind.Top kind.Synch) || (is_synch (cond b kind.Top kind.Synch) || is_remove (cond b kind.Top kind.Synch))) ≡ true)
    [ true ↦ refl | false ↦ refl ]
edit_tells h (edits.Select end) = refl
edit_tells h edits.Compress = refl
edit_tells h (edits.Add m instance place) = refl
edit_tells h (edits.Delete m instance) = refl
edit_tells h (edits.Move m instance place) = refl

or_first : (a b : Bool) → (a || b) ≡ false → a ≡ false
or_first true b e = e
or_first false b e = refl

or_last : (a b : Bool) → (a || b) ≡ false → b ≡ false
or_last true b e = absurd (false≢true (sym e))
or_last false b e = e

none_of_three : (a b c : Bool) → (a || (b || c)) ≡ true → a ≡ false → b ≡ false → c ≡ false → false ≡ true
none_of_three true b c some na nb nc = sym na
none_of_three false true c some na nb nc = sym nb
none_of_three false false true some na nb nc = sym nc
none_of_three false false false some na nb nc = some

-- changes of which none is of the history leave it
pub histories_after-same : (hs : Histories) (xs : List Step) → list_any is_top (kinds_along hs xs) ≡ false → list_any is_synch (kinds_along hs xs) ≡ false → list_any is_remove (kinds_along hs xs) ≡ false → histories_after hs xs ≡ hs
histories_after-same hs [] top synch remove = refl
histories_after-same hs (steps.Edit e ∷ xs) top synch remove =
    let k = kind_of hs.present e in
    let ks = kinds_along (changed hs (after hs.present e)) xs in
    absurd (false≢true (none_of_three (is_top k) (is_synch k) (is_remove k) (edit_tells hs.present e)
    (or_first (is_top k) (list_any is_top ks) top) (or_first (is_synch k) (list_any is_synch ks) synch) (or_first (is_remove k) (list_any is_remove ks) remove)))
histories_after-same hs (steps.Undo ∷ xs) top synch remove = absurd (false≢true (sym remove))
histories_after-same hs (steps.Redo ∷ xs) top synch remove = absurd (false≢true (sym remove))
histories_after-same hs (steps.View view ∷ xs) top synch remove = histories_after-same hs xs top synch remove
histories_after-same hs (steps.Second view ∷ xs) top synch remove = histories_after-same hs xs top synch remove
histories_after-same hs (steps.Export size depth ∷ xs) top synch remove = histories_after-same hs xs top synch remove
histories_after-same hs (steps.Thumbnail size ∷ xs) top synch remove = histories_after-same hs xs top synch remove
histories_after-same hs (steps.Settle ∷ xs) top synch remove = histories_after-same hs xs top synch remove

-- the front of a list up to a later place is the front up to an earlier one and what is between
pub take_on : {X : Type 0} (xs : List X) (from to : ℕ) → from ≤ to → take to xs ≡ take from xs ++ slice_range xs from to
take_on xs zero to rising = let e : to ≡ to - 0 = omega arith in ap (λ n. take n xs) e
take_on [] (suc from) zero rising = absurd (omega (arith, rising))
take_on [] (suc from) (suc to) rising = sym (take-nil (suc to - suc from))
take_on (x ∷ xs) (suc from) zero rising = absurd (omega (arith, rising))
take_on (x ∷ xs) (suc from) (suc to) rising =
    let e : to - from ≡ suc to - suc from = omega arith in
    ap (λ ys. x ∷ ys) (take_on xs from to (omega (arith, rising)) ∙ ap (λ n. take from xs ++ take n (drop from xs)) e)
