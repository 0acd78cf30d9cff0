-- Lemmas on scripts and on what is kept of their changes.
use Rattle.std.proofs.Common.{◌≡◌, ℕ, zero, suc, ◌+◌, ◌-◌, ◌<◌, ◌≤◌, Bool, true, false, cond, ◌||◌, List, [], ◌∷◌, ◌++◌, length, get_or, take, drop, refl, sym, ap, ◌∙◌, subst, arith, append_assoc, Option, Some, None}
use Rattle.std.specs.Prelude.{slice_get, slice_range, Err, is_some, map, IfSome}
use Rattle.std.specs.List.{list_any}
use Rattle.std.specs.Option.{option_map_or}
use Rattle.std.proofs.lemmas.List.{append-nil, take-map, drop-map, take_more}
use Rattle.std.proofs.lemmas.Option.{slice_get_within, get_or_from_slice_get}
use Rattle.std.proofs.lemmas.List.Elements.{All-take, All-filter, All-push}
use Rattle.px.specs.declared.view.View.{View}
use Rattle.outside.specs.declared.job_name.Pipe.{Pipe}
use Rattle.history.specs.declared.changes.Kind.{Kind}
use Rattle.history.specs.declared.changes.Kinds.{Kinds}
use Rattle.edit_steps.specs.declared.change.Change.{Change}
use Rattle.edit_steps.specs.declared.step.Step.{Step}
use Rattle.edit_steps.specs.declared.fault.ScriptFault.{ScriptFault}
use Rattle.edit_steps.specs.declared.fault.ScriptEnd.{ScriptEnd}
use Rattle.edit_steps.specs.declared.fault.ScriptEnd.TheVariants as ends
use Rattle.edit_steps.specs.Ranges.{IsView, IsStepWithin}
use Rattle.edit_steps.specs.Changes.{scope_of, is_change, changes_of, Histories, first_histories, histories_behind, histories_after, view_behind, view_after, second_behind, second_after, change_kind, kinds_along, is_top, is_synch, is_remove, kinds_in}
use Rattle.edit_steps.specs.Pipes.{reaches, concerns}
use Rattle.edit_steps.specs.Answer.{Judges}
use Rattle.edit_steps.specs.Faults.{step_fault, next_fault, steps_fault, history_fault}
use Rattle.edit_steps.specs.Script.{Recipe, recipe, with_step, IsScript, changes, history_at, view_at, second_at, kinds_between, concerns_between, behind, moment_of}
use Rattle.edit_steps.specs.Kept.{kept_as, kept_of, kept_along, IsKept, StandsBehind}
use Rattle.edit_steps.proofs.ChangeLemmas.{histories_behind-same, histories_after-append, histories_after-same, view_behind-same, view_after-append, view_after-within, second_behind-same, second_after-append, second_after-within, range-kinds_along, take_on}
use Rattle.edit_steps.proofs.FaultLemmas.{steps_fault-more, steps_fault-push, steps_fault-at, changes-few, AreAllowed, AreAllowed-all}

-- ---- what is kept along steps

kept_along-append : (hs : Histories) (v : View) (w : Option View) (xs ys : List Step) →
    kept_along hs v w (xs ++ ys) ≡ kept_along hs v w xs ++ kept_along (histories_after hs xs) (view_after v xs) (second_after w xs) ys
kept_along-append hs v w [] ys = refl
kept_along-append hs v w (x ∷ xs) ys =
    let more = kept_along (histories_behind hs x) (view_behind v x) (second_behind w x) xs in
    ap (λ ks. kept_of hs v w x ++ ks) (kept_along-append (histories_behind hs x) (view_behind v x) (second_behind w x) xs ys)
    ∙ sym (append_assoc (kept_of hs v w x) more (kept_along (histories_after hs (x ∷ xs)) (view_after v (x ∷ xs)) (second_after w (x ∷ xs)) ys))

-- one entry for each change
length-kept_along : (hs : Histories) (v : View) (w : Option View) (xs : List Step) → length (kept_along hs v w xs) ≡ length (changes_of xs)
length-kept_along hs v w [] = refl
length-kept_along hs v w (x ∷ xs) =
    let more = kept_along (histories_behind hs x) (view_behind v x) (second_behind w x) xs in
    let same = length-kept_along (histories_behind hs x) (view_behind v x) (second_behind w x) xs in
    elim (scope_of x) as (λ o. length (kept_as (change_kind hs x) (view_behind v x) (second_behind w x) o ++ more) ≡ length (cond (is_some o) (x ∷ changes_of xs) (changes_of xs)))
    [ None ↦ same | Some scope ↦ ap suc same ]

kept_along-kinds : (hs : Histories) (v : View) (w : Option View) (xs : List Step) → map (λ (c : Change). c.kind) (kept_along hs v w xs) ≡ kinds_along hs (changes_of xs)
kept_along-kinds hs v w [] = refl
kept_along-kinds hs v w (x ∷ xs) =
    let cs = changes_of xs in
    let more = kept_along (histories_behind hs x) (view_behind v x) (second_behind w x) xs in
    let same = kept_along-kinds (histories_behind hs x) (view_behind v x) (second_behind w x) xs in
    (elim (scope_of x) as (λ o. scope_of x ≡ o → map (λ (c : Change). c.kind) (kept_as (change_kind hs x) (view_behind v x) (second_behind w x) o ++ more) ≡ kinds_along hs (cond (is_some o) (x ∷ cs) cs)) [
      | None ↦ λ none. same ∙ ap (λ g. kinds_along g cs) (histories_behind-same hs x (ap is_some none))
      | Some scope ↦ λ _. ap (λ ks. change_kind hs x ∷ ks) same
    ]) refl

kept_along-concerns : (pipe : Pipe) (hs : Histories) (v : View) (w : Option View) (xs : List Step) → map (λ (c : Change). reaches pipe c.scope) (kept_along hs v w xs) ≡ map (concerns pipe) (changes_of xs)
kept_along-concerns pipe hs v w [] = refl
kept_along-concerns pipe hs v w (x ∷ xs) =
    let cs = changes_of xs in
    let more = kept_along (histories_behind hs x) (view_behind v x) (second_behind w x) xs in
    let same = kept_along-concerns pipe (histories_behind hs x) (view_behind v x) (second_behind w x) xs in
    (elim (scope_of x) as (λ o. scope_of x ≡ o → map (λ (c : Change). reaches pipe c.scope) (kept_as (change_kind hs x) (view_behind v x) (second_behind w x) o ++ more) ≡ map (concerns pipe) (cond (is_some o) (x ∷ cs) cs)) [
      | None ↦ λ _. same
      | Some scope ↦ λ some.
          ap (λ o. option_map_or (reaches pipe) o false ∷ map (λ (c : Change). reaches pipe c.scope) more) (sym some) ∙ ap (λ bs. concerns pipe x ∷ bs) same
    ]) refl

-- the views kept of a change are those behind the changes up to it
kept_along-at : (hs : Histories) (v : View) (w : Option View) (xs : List Step) (k : ℕ) (d : Change) → k < length (changes_of xs) →
    ((get_or (kept_along hs v w xs) k d).view ≡ view_after v (take (suc k) (changes_of xs))) × ((get_or (kept_along hs v w xs) k d).second ≡ second_after w (take (suc k) (changes_of xs)))
kept_along-at hs v w [] k d within = absurd (omega (arith, within))
kept_along-at hs v w (x ∷ xs) zero d within =
    let cs = changes_of xs in
    let more = kept_along (histories_behind hs x) (view_behind v x) (second_behind w x) xs in
    let same = kept_along-at (histories_behind hs x) (view_behind v x) (second_behind w x) xs zero d in
    (elim (scope_of x) as (λ o. scope_of x ≡ o → zero < length (cond (is_some o) (x ∷ cs) cs) →
    ((get_or (kept_as (change_kind hs x) (view_behind v x) (second_behind w x) o ++ more) zero d).view ≡ view_after v (take (suc zero) (cond (is_some o) (x ∷ cs) cs)))
    × ((get_or (kept_as (change_kind hs x) (view_behind v x) (second_behind w x) o ++ more) zero d).second ≡ second_after w (take (suc zero) (cond (is_some o) (x ∷ cs) cs)))) [
      | None ↦ λ none there. (
        (same there).0 ∙ ap (λ u. view_after u (take (suc zero) cs)) (view_behind-same v x (ap is_some none)),
        (same there).1 ∙ ap (λ u. second_after u (take (suc zero) cs)) (second_behind-same w x (ap is_some none)),
      )
      | Some scope ↦ λ _ _. (refl, refl)
    ]) refl within
kept_along-at hs v w (x ∷ xs) (suc k) d within =
    let cs = changes_of xs in
    let more = kept_along (histories_behind hs x) (view_behind v x) (second_behind w x) xs in
    let same = λ (n : ℕ). kept_along-at (histories_behind hs x) (view_behind v x) (second_behind w x) xs n d in
    (elim (scope_of x) as (λ o. scope_of x ≡ o → suc k < length (cond (is_some o) (x ∷ cs) cs) →
    ((get_or (kept_as (change_kind hs x) (view_behind v x) (second_behind w x) o ++ more) (suc k) d).view ≡ view_after v (take (suc (suc k)) (cond (is_some o) (x ∷ cs) cs)))
    × ((get_or (kept_as (change_kind hs x) (view_behind v x) (second_behind w x) o ++ more) (suc k) d).second ≡ second_after w (take (suc (suc k)) (cond (is_some o) (x ∷ cs) cs)))) [
      | None ↦ λ none there. (
        (same (suc k) there).0 ∙ ap (λ u. view_after u (take (suc (suc k)) cs)) (view_behind-same v x (ap is_some none)),
        (same (suc k) there).1 ∙ ap (λ u. second_after u (take (suc (suc k)) cs)) (second_behind-same w x (ap is_some none)),
      )
      | Some scope ↦ λ _ there. same k (omega (arith, there))
    ]) refl within

-- ---- what is kept of a script

pub kept-count : (r : Recipe) (kept : List Change) → IsKept r kept → length kept ≡ changes r
kept-count r kept is = ap length is.kept_is ∙ length-kept_along (first_histories r.settings r.opening) r.settings.view r.settings.second r.steps

pub changes-most : (r : Recipe) → IsScript r → changes r ≤ 256
changes-most r script = changes-few r.settings r.opening r.steps script.allowed

-- ---- views

pub kept-views : (r : Recipe) (kept : List Change) (m k : ℕ) (d : Change) → IsKept r kept → m ≤ changes r → m ≡ k + 1 → ((get_or kept k d).view ≡ view_at r m) × ((get_or kept k d).second ≡ second_at r m)
kept-views r kept m k d is within at =
    let next : suc k ≡ m = omega (arith, at) in
    let there = kept_along-at (first_histories r.settings r.opening) r.settings.view r.settings.second r.steps k d (omega (arith, within, at)) in (
      ap (λ ks. (get_or ks k d).view) is.kept_is ∙ there.0 ∙ ap (λ n. view_after r.settings.view (take n (changes_of r.steps))) next,
      ap (λ ks. (get_or ks k d).second) is.kept_is ∙ there.1 ∙ ap (λ n. second_after r.settings.second (take n (changes_of r.steps))) next,
    )

pub view_at-within : (r : Recipe) (m : ℕ) → IsScript r → IsView (view_at r m)
view_at-within r m script =
    view_after-within r.settings.view (take m (changes_of r.steps)) script.settings.view
    (All-take IsStepWithin m (changes_of r.steps) (All-filter is_change IsStepWithin r.steps script.within))

pub second_at-within : (r : Recipe) (m : ℕ) → IsScript r → IfSome (second_at r m) IsView
second_at-within r m script =
    second_after-within r.settings.second (take m (changes_of r.steps)) script.settings.second
    (All-take IsStepWithin m (changes_of r.steps) (All-filter is_change IsStepWithin r.steps script.within))

-- ---- kinds

pub list_any-map : {X Y : Type 0} (p : Y → Bool) (f : X → Y) (xs : List X) → list_any p (map f xs) ≡ list_any (λ x. p (f x)) xs
list_any-map p f [] = refl
list_any-map p f (x ∷ xs) = ap (λ b. p (f x) || b) (list_any-map p f xs)

range-map : {X Y : Type 0} (f : X → Y) (xs : List X) (from to : ℕ) → slice_range (map f xs) from to ≡ map f (slice_range xs from to)
range-map f xs from to = ap (take (to - from)) (drop-map f from xs) ∙ take-map f (to - from) (drop from xs)

pub kept-kinds : (r : Recipe) (kept : List Change) (from to : ℕ) → IsKept r kept → kinds_in (map (λ (c : Change). c.kind) (slice_range kept from to)) ≡ kinds_between r from to
kept-kinds r kept from to is =
    let kind_of : Change → Kind = λ c. c.kind in
    ap kinds_in (sym (range-map kind_of kept from to)
    ∙ ap (λ ks. slice_range (map kind_of ks) from to) is.kept_is
    ∙ ap (λ ks. slice_range ks from to) (kept_along-kinds (first_histories r.settings r.opening) r.settings.view r.settings.second r.steps))

pub kinds-same : (r : Recipe) (from to : ℕ) (kinds : Kinds) → from ≤ to → kinds ≡ kinds_between r from to → kinds.top ≡ false → kinds.synch ≡ false → kinds.remove ≡ false → history_at r to ≡ history_at r from
kinds-same r from to kinds rising known top synch remove =
    let cs = changes_of r.steps in
    let hs = first_histories r.settings r.opening in
    let part = range-kinds_along hs cs from to in
    ap (λ (g : Histories). g.present) (ap (histories_after hs) (take_on cs from to rising)
    ∙ histories_after-append hs (take from cs) (slice_range cs from to)
    ∙ histories_after-same (histories_after hs (take from cs)) (slice_range cs from to)
    (ap (list_any is_top) (sym part) ∙ sym (ap (λ (k : Kinds). k.top) known) ∙ top)
    (ap (list_any is_synch) (sym part) ∙ sym (ap (λ (k : Kinds). k.synch) known) ∙ synch)
    (ap (list_any is_remove) (sym part) ∙ sym (ap (λ (k : Kinds). k.remove) known) ∙ remove))

-- ---- concerns

pub kept-concerns : (r : Recipe) (kept : List Change) (pipe : Pipe) (from to : ℕ) → IsKept r kept → list_any (λ (c : Change). reaches pipe c.scope) (slice_range kept from to) ≡ concerns_between r pipe from to
kept-concerns r kept pipe from to is =
    let reached : Change → Bool = λ c. reaches pipe c.scope in
    let some : List Bool → Bool = list_any (λ b. b) in
    sym (list_any-map (λ b. b) reached (slice_range kept from to))
    ∙ ap some (sym (range-map reached kept from to)
    ∙ ap (λ ks. slice_range (map reached ks) from to) is.kept_is
    ∙ ap (λ bs. slice_range bs from to) (kept_along-concerns pipe (first_histories r.settings r.opening) r.settings.view r.settings.second r.steps)
    ∙ range-map (concerns pipe) (changes_of r.steps) from to)
    ∙ list_any-map (λ b. b) (concerns pipe) (slice_range (changes_of r.steps) from to)

-- ---- one step more

IsScript-more : (r : Recipe) (s : Step) → IsScript r → IsStepWithin s → step_fault r.settings r.opening r.steps s ≡ None → IsScript (with_step r s)
IsScript-more r s script within allowed = record {
  settings = script.settings;
  opening = script.opening;
  within = All-push IsStepWithin r.steps s script.within within;
  allowed = steps_fault-more r.settings r.opening r.steps s script.allowed allowed;
}

-- what is kept of a script with one step more
pub IsKept-more : (r : Recipe) (kept new : List Change) (s : Step) (hs : Histories) (v : View) (w : Option View) (kind : Kind) (view : View) (second : Option View) (all : List Step) →
    IsKept r kept → StandsBehind r hs v w → IsStepWithin s → step_fault r.settings r.opening r.steps s ≡ None → all ≡ r.steps ++ s ∷ [] → kind ≡ change_kind hs s → view ≡ view_behind v s → second ≡ second_behind w s →
    new ≡ kept ++ kept_as kind view second (scope_of s) → IsKept (recipe r.settings r.opening all) new
IsKept-more r kept new s hs v w kind view second all is stands within allowed pushed kind_is view_is second_is new_is =
    let first = first_histories r.settings r.opening in
    let last_kind : kind ≡ change_kind (histories_after first r.steps) s = kind_is ∙ ap (λ g. change_kind g s) stands.histories_are in
    let last_view : view ≡ view_behind (view_after r.settings.view r.steps) s = view_is ∙ ap (λ u. view_behind u s) stands.view_is in
    let last_second : second ≡ second_behind (second_after r.settings.second r.steps) s = second_is ∙ ap (λ u. second_behind u s) stands.second_is in
    let last : kept_as kind view second (scope_of s) ≡ kept_of (histories_after first r.steps) (view_after r.settings.view r.steps) (second_after r.settings.second r.steps) s =
    ap (λ k. kept_as k view second (scope_of s)) last_kind
    ∙ ap (λ u. kept_as (change_kind (histories_after first r.steps) s) u second (scope_of s)) last_view
    ∙ ap (λ u. kept_as (change_kind (histories_after first r.steps) s) (view_behind (view_after r.settings.view r.steps) s) u (scope_of s)) last_second in
    let before = kept_along first r.settings.view r.settings.second r.steps in
    let more : IsKept (with_step r s) new = record {
      script = IsScript-more r s is.script within allowed;
      kept_is = new_is ∙ ap (λ ks. ks ++ kept_as kind view second (scope_of s)) is.kept_is ∙ ap (λ ks. before ++ ks) (last ∙ sym (append-nil _))
          ∙ sym (kept_along-append first r.settings.view r.settings.second r.steps (s ∷ []));
    } in
    subst (λ xs. IsKept (recipe r.settings r.opening xs) new) (sym pushed) more

pub StandsBehind-more : (r : Recipe) (s : Step) (hs new_hs : Histories) (v new_v : View) (w new_w : Option View) (all : List Step) →
    StandsBehind r hs v w → all ≡ r.steps ++ s ∷ [] → new_hs ≡ histories_behind hs s → new_v ≡ view_behind v s → new_w ≡ second_behind w s → StandsBehind (recipe r.settings r.opening all) new_hs new_v new_w
StandsBehind-more r s hs new_hs v new_v w new_w all stands pushed histories_are view_is second_is = record {
  histories_are = histories_are ∙ ap (λ g. histories_behind g s) stands.histories_are ∙ sym (histories_after-append (first_histories r.settings r.opening) r.steps (s ∷ [])) ∙ ap (histories_after (first_histories r.settings r.opening)) (sym pushed);
  view_is = view_is ∙ ap (λ u. view_behind u s) stands.view_is ∙ sym (view_after-append r.settings.view r.steps (s ∷ [])) ∙ ap (view_after r.settings.view) (sym pushed);
  second_is = second_is ∙ ap (λ u. second_behind u s) stands.second_is ∙ sym (second_after-append r.settings.second r.steps (s ∷ [])) ∙ ap (second_after r.settings.second) (sym pushed);
}

-- ---- the way to a moment

-- the histories so far, with the steps that are left and how many changes of them are wanted
pub record IsOnTheWay (r : Recipe) (m : ℕ) (hs : Histories) (rest : List Step) (left : ℕ) : Type 0 where
  pub allowed : AreAllowed hs rest
  pub ends : (histories_after hs (take left (changes_of rest))).present ≡ history_at r m

pub IsOnTheWay-start : (r : Recipe) (m : ℕ) → IsScript r → IsOnTheWay r m (first_histories r.settings r.opening) r.steps m
IsOnTheWay-start r m script = record { allowed = AreAllowed-all r.settings r.opening r.steps script.allowed; ends = refl }

ends-on : (hs : Histories) (s : Step) (rest : List Step) (left new : ℕ) → left ≡ cond (is_change s) (suc new) new →
    histories_after (histories_behind hs s) (take new (changes_of rest)) ≡ histories_after hs (take left (changes_of (s ∷ rest)))
ends-on hs s rest left new e =
    (elim (is_change s) as (λ b. is_change s ≡ b → left ≡ cond b (suc new) new → histories_after (histories_behind hs s) (take new (changes_of rest)) ≡ histories_after hs (take left (cond b (s ∷ changes_of rest) (changes_of rest)))) [
      | true ↦ λ _ one. ap (λ n. histories_after hs (take n (s ∷ changes_of rest))) (sym one)
      | false ↦ λ other none. ap (λ g. histories_after g (take new (changes_of rest))) (histories_behind-same hs s other) ∙ ap (λ n. histories_after hs (take n (changes_of rest))) (sym none)
    ]) refl e

pub IsOnTheWay-on : (r : Recipe) (m : ℕ) (hs new_hs : Histories) (s : Step) (rest : List Step) (left new : ℕ) → IsOnTheWay r m hs (s ∷ rest) left → new_hs ≡ histories_behind hs s → left ≡ cond (is_change s) (suc new) new → IsOnTheWay r m new_hs rest new
IsOnTheWay-on r m hs new_hs s rest left new way behind e =
    let on : IsOnTheWay r m (histories_behind hs s) rest new = record { allowed = way.allowed.1; ends = ap (λ (g : Histories). g.present) (ends-on hs s rest left new e) ∙ way.ends } in
    subst (λ g. IsOnTheWay r m g rest new) (sym behind) on

-- ---- the histories behind the first steps

-- the changes among the first steps leave what the steps leave
after_take : (hs : Histories) (xs : List Step) (n : ℕ) → histories_after hs (take (length (changes_of (take n xs))) (changes_of xs)) ≡ histories_after hs (take n xs)
after_take hs [] zero = refl
after_take hs [] (suc n) = refl
after_take hs (x ∷ xs) zero = refl
after_take hs (x ∷ xs) (suc n) =
    (elim (is_change x) as (λ b. is_change x ≡ b → histories_after hs (take (length (cond b (x ∷ changes_of (take n xs)) (changes_of (take n xs)))) (cond b (x ∷ changes_of xs) (changes_of xs))) ≡ histories_after (histories_behind hs x) (take n xs)) [
      | true ↦ λ _. after_take (histories_behind hs x) xs n
      | false ↦ λ other. ap (λ g. histories_after g (take (length (changes_of (take n xs))) (changes_of xs))) (sym (histories_behind-same hs x other)) ∙ after_take (histories_behind hs x) xs n
    ]) refl

-- the first steps leave the history of their moment
pub behind-present : (r : Recipe) (n : ℕ) → (behind r n).present ≡ history_at r (moment_of r n)
behind-present r n = ap (λ (hs : Histories). hs.present) (sym (after_take (first_histories r.settings r.opening) r.steps n))

-- one step more
pub behind-more : (r : Recipe) (n : ℕ) (s : Step) → slice_get r.steps n ≡ Some s → behind r (n + 1) ≡ histories_behind (behind r n) s
behind-more r n s stands =
    let more : take (n + 1) r.steps ≡ take n r.steps ++ s ∷ [] = take_more r.steps n s (slice_get_within r.steps n s stands) ∙ ap (λ y. take n r.steps ++ y ∷ []) (get_or_from_slice_get r.steps n s s stands) in
    ap (histories_after (first_histories r.settings r.opening)) more ∙ histories_after-append (first_histories r.settings r.opening) (take n r.steps) (s ∷ [])

allowed_at : (hs : Histories) (xs : List Step) (n : ℕ) (s : Step) → AreAllowed hs xs → slice_get xs n ≡ Some s → history_fault (histories_after hs (take n xs)) s ≡ None
allowed_at hs [] n s allowed stands = absurd cc
allowed_at hs (x ∷ xs) zero s allowed stands = let same : x ≡ s = cc in ap (history_fault hs) (sym same) ∙ allowed.0
allowed_at hs (x ∷ xs) (suc n) s allowed stands = allowed_at (histories_behind hs x) xs n s allowed.1 stands

-- each step may follow those before it
pub behind-allows : (r : Recipe) (n : ℕ) (s : Step) → IsScript r → slice_get r.steps n ≡ Some s → history_fault (behind r n) s ≡ None
behind-allows r n s script stands = allowed_at (first_histories r.settings r.opening) r.steps n s (AreAllowed-all r.settings r.opening r.steps script.allowed) stands

-- ---- a draft that is filled

-- the draft and the steps that are left make the whole, and none of the draft's steps has a fault
pub record IsFilling (whole draft : Recipe) (rest : List Step) : Type 0 where
  pub parts : whole ≡ recipe draft.settings draft.opening (draft.steps ++ rest)
  pub allowed : steps_fault draft.settings draft.opening [] draft.steps ≡ None

pub IsFilling-more : (whole draft new : Recipe) (s : Step) (all rest : List Step) → IsFilling whole draft all → all ≡ s ∷ rest → next_fault draft.settings draft.opening draft.steps s ≡ None → new ≡ with_step draft s → IsFilling whole new rest
IsFilling-more whole draft new s all rest filling first none longer =
    let more : IsFilling whole (with_step draft s) rest = record {
      parts = filling.parts ∙ ap (λ xs. recipe draft.settings draft.opening (draft.steps ++ xs)) first ∙ ap (recipe draft.settings draft.opening) (sym (append_assoc draft.steps (s ∷ []) rest));
      allowed = steps_fault-push draft.settings draft.opening draft.steps s filling.allowed none;
    } in
    subst (λ d. IsFilling whole d rest) (sym longer) more

-- the fault of the first step that is left is the first one of all
pub IsFilling-fault : (whole draft : Recipe) (s : Step) (all rest : List Step) (fault : ScriptFault) → IsFilling whole draft all → all ≡ s ∷ rest → next_fault draft.settings draft.opening draft.steps s ≡ Some fault → steps_fault whole.settings whole.opening [] whole.steps ≡ Some fault
IsFilling-fault whole draft s all rest fault filling first found =
    ap (λ (r : Recipe). steps_fault r.settings r.opening [] r.steps) filling.parts
    ∙ ap (λ xs. steps_fault draft.settings draft.opening [] (draft.steps ++ xs)) first
    ∙ steps_fault-at draft.settings draft.opening draft.steps s rest fault filling.allowed found

pub IsFilling-whole : (whole draft : Recipe) (rest : List Step) → IsFilling whole draft rest → rest ≡ [] → whole ≡ draft
IsFilling-whole whole draft rest filling none =
    filling.parts ∙ ap (λ xs. recipe draft.settings draft.opening (draft.steps ++ xs)) none ∙ ap (recipe draft.settings draft.opening) (append-nil draft.steps)

-- what refuses the first step that is left refuses all
pub IsFilling-refused : (X Y : Type 0) (whole draft : Recipe) (s : Step) (all rest : List Step) (end : ScriptEnd) → IsFilling whole draft all → all ≡ s ∷ rest → Judges {X = X} (next_fault draft.settings draft.opening draft.steps s) (Err end) →
    Judges {X = Y} (steps_fault whole.settings whole.opening [] whole.steps) (Err end)
IsFilling-refused X Y whole draft s all rest (ends.Fault fault) filling first found = IsFilling-fault whole draft s all rest fault filling first found
IsFilling-refused X Y whole draft s all rest ends.Memory filling first found = tt
