-- what one entry does at the desk
use Rattle.std.proofs.Common.{◌≡◌, ℕ, ◌+◌, Bool, true, false, cond, ◌||◌, List, [], ◌∷◌, Some, refl, sym, ap, subst, ◌∙◌, length}
use Rattle.std.proofs.lemmas.List.{append-nil}
use Rattle.std.specs.Prelude.{slice_get}
use Rattle.std.specs.List.{list_any}
use Rattle.edit_steps.specs.declared.step.Step.{Step}
use Rattle.edit_steps.specs.Changes.{is_change}
use Rattle.edit_steps.specs.Script.{Recipe}
use Rattle.journal.specs.declared.entry.Entry.{Entry}
use Rattle.journal.specs.declared.entry.Entry.TheVariants.{Changed, Asked, Settled, Closed, Took, Restarted, Published, GaveBack, TicketTook, TicketDone, TicketBack, Stopped}
use Rattle.journal.specs.Tickets.{is_ask}
use Rattle.journal.specs.Desk.{Desk, start, next, desk_of, is_settled}
use Rattle.journal.proofs.PushLemmas.{desk_of-push}
use Rattle.dev_core.specs.DeskState.{DeskSeen, now, with_entry}
use Rattle.desk.specs.declared.edited.Edited.TheVariants as did
use Rattle.desk.specs.Turns.{desk_after, Entered}
use Rattle.desk.specs.Edits.{edited, edited_next}
use Rattle.desk.specs.Stops.{stop_adds}

pub entered_by : (old new : DeskSeen) (e : Entry) → new ≡ with_entry old e → Entered old new (e ∷ [])
entered_by old new e is = record { subject = ap (λ s. s.subject) is; journal = ap (λ s. s.journal) is }

pub entered_none : (old new : DeskSeen) → new ≡ old → Entered old new []
entered_none old new is = record { subject = ap (λ s. s.subject) is; journal = ap (λ s. s.journal) is ∙ sym (append-nil old.journal) }

-- a desk at which nothing was entered is closed where it was
pub closed_before : (old new : DeskSeen) → Entered old new [] → (now old).closed ≡ (now new).closed
closed_before old new e = ap (λ es. (desk_after es).closed) (sym (e.journal ∙ append-nil old.journal))

-- ---- what the editor does

pub moment_after : (old new : DeskSeen) (e : Entry) → new ≡ with_entry old e → (now new).moment ≡ (next (now old) e).moment
moment_after old new e is = ap (λ d. (now d).moment) is ∙ ap (λ (d : Desk). d.moment) (desk_of-push start old.journal e)

-- a change
pub entered_change : (old new : DeskSeen) (n : ℕ) → new ≡ with_entry old (Changed ((now old).moment + 1)) → n ≡ (now new).moment → Entered old new (Changed n ∷ [])
entered_change old new n is n_is =
    subst (λ k. Entered old new (Changed k ∷ [])) (sym (n_is ∙ moment_after old new (Changed ((now old).moment + 1)) is)) (entered_by old new (Changed ((now old).moment + 1)) is)

pub edited_change : (script : Recipe) (d : Desk) (step : Step) (n : ℕ) → d.closed ≡ false → slice_get script.steps d.steps ≡ Some step → is_change step ≡ true → n ≡ d.moment + 1
    → did.Changed n ≡ edited script d
edited_change script d step n open_is at on n_is =
    ap did.Changed n_is
    ∙ sym (ap (λ b. cond b did.AllDone (edited_next script d (slice_get script.steps d.steps))) open_is ∙ ap (edited_next script d) at
    ∙ ap (λ b. cond b (did.Changed (d.moment + 1)) (cond (is_ask step) (did.Asked (length d.tickets + 1)) (cond (is_settled script d) did.Settled did.Unsettled))) on)

pub changed_moment : (old new : DeskSeen) (n : ℕ) → new ≡ with_entry old (Changed ((now old).moment + 1)) → n ≡ (now new).moment → n ≡ (now old).moment + 1
changed_moment old new n is n_is = n_is ∙ moment_after old new (Changed ((now old).moment + 1)) is

-- a step that asks
pub entered_ask : (old new : DeskSeen) (t : ℕ) → new ≡ with_entry old (Asked (length (now old).tickets + 1) (now old).moment) → t ≡ length (now old).tickets + 1
    → Entered old new (Asked t (now new).moment ∷ [])
entered_ask old new t is t_is =
    let e = Asked (length (now old).tickets + 1) (now old).moment in
    subst (λ k. Entered old new (k ∷ [])) ((λ i. Asked (sym t_is i) (sym (moment_after old new e is) i))) (entered_by old new e is)

-- ---- that the desk was stopped

pub entered_stop : (old new : DeskSeen) (w : ℕ) (before : Bool) → (now old).stopped ≡ before → Entered old new (stop_adds w before) → Entered old new (stop_adds w (now old).stopped)
entered_stop old new w before is e = subst (λ b. Entered old new (stop_adds w b)) (sym is) e
