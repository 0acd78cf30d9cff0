-- the rows of the editor, and those that begin and end jobs
use Rattle.std.proofs.Common.{◌≡◌, ◌≢◌, ℕ, ◌+◌, ◌<◌, ◌≤◌, List, [], ◌∷◌, ◌++◌, length, map, get_or, refl, sym, ap, subst, ◌∙◌, arith, Bool, true, false, not, cond, ◌&&◌, Option, Some, None, Bor, leb, ⊎_elim}
use Rattle.std.specs.Prelude.{option_map, option_and_then, is_none, is_some, slice_get, slice_set, nat_le}
use Rattle.std.specs.Bool.{beq}
use Rattle.std.specs.Option.{option_copied}
use Rattle.std.proofs.lemmas.Bool.{le-leb}
use Rattle.std.proofs.lemmas.Bool.Decides.{leb_tells}
use Rattle.std.proofs.lemmas.Option.{none-some, same_Some, slice_get_cases}
use Rattle.outside.specs.declared.job_name.JobName.{JobName}
use Rattle.outside.specs.declared.job_name.JobName.TheVariants as job
use Rattle.outside.specs.declared.job_name.Pipe.{Pipe}
use Rattle.edit_steps.specs.declared.step.Step.{Step}
use Rattle.edit_steps.specs.declared.step.Step.TheVariants as steps
use Rattle.edit_steps.specs.Changes.{is_change}
use Rattle.edit_steps.specs.Script.{Recipe}
use Rattle.journal.specs.declared.entry.Entry.{Entry}
use Rattle.journal.specs.declared.entry.Entry.TheVariants as entry
use Rattle.journal.specs.Desk.{Desk, May, NextIs, IsSuperseded, start, is_settled, is_due_job}
use Rattle.journal.specs.Tickets.{is_ask, is_settle}
use Rattle.journal.specs.Lines.{Line}
use Rattle.journal.specs.Own.{worker_of, act_of, after_act, Stays}
use Rattle.journal.proofs.DueLemmas.{both_on}
use Rattle.journal.proofs.PushLemmas.{desk_of-push}
use Rattle.stage_cache.specs.StageCache.{StageCacheSeen}
use Rattle.level_store.specs.Levels.{StoreSeen, hold_of}
use Rattle.dev_core.specs.DeskState.{DeskSeen, now, with_entry}
use Rattle.dev_core.specs.Jobs.{JobSeen, OfPipe, job_seen, took_entry, done_entry, back_entry}
use Rattle.events.specs.declared.event.Event.{Event}
use Rattle.events.specs.declared.event.Event.TheVariants as event
use Rattle.stepped.specs.declared.answer.Answer.{Answer}
use Rattle.stepped.specs.declared.answer.Answer.TheVariants as answer
use Rattle.stepped.specs.Machine.{OpenSeen, run_seen, core_seen, run_at, line_at, IsSeated, AreSeated, CachesOf, IsMachine, moment_for, take_event, deliver_event}
use Rattle.stepped.specs.Step.{Core, Run, Next, desk_at, of_run, ended, with_run, with_entry as with_core_entry, step, step_take, edit_step, edit_next, edit_of, fresh, given, is_pipe, is_later, is_behind, is_free, run_of, last_worker, row_look, row_restart, row_publish, row_finish_ticket, row_give_back, restart_entry}
use Rattle.stepped.proofs.SeatLemmas.{put_back, run_within, holds_run, idle_free, may_take, may_done, may_back, superseded, seated_entered, seated_edited}
use Rattle.stepped.proofs.RowLemmas.{run_of_seen, row_of, row_none, given_on, given_off, seen_seat}

-- ---- the editor

-- what the editor does next
pub edit_is : (desk : DeskSeen) (runs : List (Option OpenSeen)) (cache : StageCacheSeen) (levels : StoreSeen) (e : Entry) (a : Answer) → edit_of desk.subject.script (now desk) ≡ Some (e, a)
    → step (core_seen desk runs cache levels) event.Editor ≡ Some (core_seen (with_entry desk e) runs cache levels, a)
edit_is desk runs cache levels e a is = ap (option_map (λ (n : Entry × Answer). (core_seen (with_entry desk n.0) runs cache levels, n.1))) is

pub edit_none : (desk : DeskSeen) (runs : List (Option OpenSeen)) (cache : StageCacheSeen) (levels : StoreSeen) → edit_of desk.subject.script (now desk) ≡ None
    → step (core_seen desk runs cache levels) event.Editor ≡ None
edit_none desk runs cache levels is = ap (option_map (λ (n : Entry × Answer). (core_seen (with_entry desk n.0) runs cache levels, n.1))) is

pub closed_off : (script : Recipe) (d : Desk) → d.closed ≡ true → edit_of script d ≡ None
closed_off script d closed = ap (λ b. cond b None (edit_next script d (slice_get script.steps d.steps))) closed

pub open_on : (script : Recipe) (d : Desk) (o : Option Step) → d.closed ≡ false → slice_get script.steps d.steps ≡ o → edit_of script d ≡ edit_next script d o
open_on script d o open_is at = ap (λ b. cond b None (edit_next script d (slice_get script.steps d.steps))) open_is ∙ ap (edit_next script d) at

-- the three sorts of steps
abbrev by_sort : Recipe → Desk → Bool → Bool → Bool → Option (Entry × Answer)
by_sort script d changed asked settled =
    cond changed (Some (entry.Changed (d.moment + 1), answer.Moment (d.moment + 1)))
    (cond asked (Some (entry.Asked (length d.tickets + 1) d.moment, answer.Ticket (length d.tickets + 1))) (cond settled (Some (entry.Settled, answer.Done)) None))

sort_of : (script : Recipe) (d : Desk) (x : Step) (changed asked settled : Bool) → is_change x ≡ changed → is_ask x ≡ asked → is_settled script d ≡ settled
    → edit_step script d x ≡ by_sort script d changed asked settled
sort_of script d x changed asked settled c a t =
    ap (λ b. by_sort script d b (is_ask x) (is_settled script d)) c ∙ ap (λ b. by_sort script d changed b (is_settled script d)) a ∙ ap (λ b. by_sort script d changed asked b) t

-- each sort of step, with its row of the journal
pub change_is : (script : Recipe) (d : Desk) (x : Step) → is_change x ≡ true → edit_step script d x ≡ Some (entry.Changed (d.moment + 1), answer.Moment (d.moment + 1))
change_is script d x on = sort_of script d x true (is_ask x) (is_settled script d) on refl refl

pub ask_is : (script : Recipe) (d : Desk) (x : Step) → is_change x ≡ false → is_ask x ≡ true
    → edit_step script d x ≡ Some (entry.Asked (length d.tickets + 1) d.moment, answer.Ticket (length d.tickets + 1))
ask_is script d x off on = sort_of script d x false true (is_settled script d) off on refl

pub settle_is : (script : Recipe) (d : Desk) (x : Step) → is_change x ≡ false → is_ask x ≡ false → is_settled script d ≡ true → edit_step script d x ≡ Some (entry.Settled, answer.Done)
settle_is script d x off other on = sort_of script d x false false true off other on

pub waits_is : (script : Recipe) (d : Desk) (x : Step) → is_change x ≡ false → is_ask x ≡ false → is_settled script d ≡ false → edit_step script d x ≡ None
waits_is script d x off other unsettled = sort_of script d x false false false off other unsettled

-- a step that neither changes anything nor asks is a settle
pub settle_left : (x : Step) → is_change x ≡ false → is_ask x ≡ false → is_settle x ≡ true
settle_left (steps.Edit edit) off other = cc
settle_left steps.Undo off other = cc
settle_left steps.Redo off other = cc
settle_left (steps.View view) off other = cc
settle_left (steps.Second view) off other = cc
settle_left (steps.Export size depth) off other = cc
settle_left (steps.Thumbnail size) off other = cc
settle_left steps.Settle off other = refl

-- ---- taking

pub take_row : (desk : DeskSeen) (runs : List (Option OpenSeen)) (cache : StageCacheSeen) (levels : StoreSeen) (name : JobName) (w : ℕ)
    → step (core_seen desk runs cache levels) (take_event name w) ≡ step_take (core_seen desk runs cache levels) w name (moment_for desk name)
take_row desk runs cache levels (job.Pipe p) w = refl
take_row desk runs cache levels (job.Ticket t) w = refl

take_worker : (name : JobName) (w m : ℕ) → worker_of (took_entry name w m) ≡ w
take_worker (job.Pipe p) w m = refl
take_worker (job.Ticket t) w m = refl

-- the entry of a job that is taken gives the worker that job
took_line : (desk : DeskSeen) (name : JobName) (w : ℕ) (before : Option Line)
    → Some (record { job = name; moment = moment_for desk name }) ≡ after_act before (act_of desk.subject.script (took_entry name w (now desk).moment))
took_line desk (job.Pipe p) w before = refl
took_line desk (job.Ticket t) w before = refl

leb_far : (a b : ℕ) → b < a → leb a b ≡ false
leb_far a b far = ⊎_elim (λ (h : (leb a b ≡ true) × (a ≤ b)). let low = h.1 in absurd (omega arith)) (λ (h : (leb a b ≡ false) × (b < a)). h.0) (leb_tells a b)

-- a worker with a number that is too great has no seat
pub take_far : (desk : DeskSeen) (runs : List (Option OpenSeen)) (cache : StageCacheSeen) (levels : StoreSeen) (name : JobName) (w : ℕ) → AreSeated desk runs → length runs ≤ w
    → step (core_seen desk runs cache levels) (take_event name w) ≡ None
take_far desk runs cache levels name w k far =
    take_row desk runs cache levels name w
    ∙ given_off _ _ answer.Done (ap (λ b. b && (is_none (run_of (core_seen desk runs cache levels) w) && is_due_job desk.subject.script (now desk) name)) (leb_far w (last_worker desk.subject) (omega (arith, far, k.seats))))

pub take_busy : (desk : DeskSeen) (runs : List (Option OpenSeen)) (cache : StageCacheSeen) (levels : StoreSeen) (name : JobName) (w : ℕ) (o : OpenSeen) → run_at runs w ≡ Some o
    → step (core_seen desk runs cache levels) (take_event name w) ≡ None
take_busy desk runs cache levels name w o is =
    take_row desk runs cache levels name w
    ∙ given_off _ _ answer.Done (ap (λ r. nat_le w (last_worker desk.subject) && (is_none r && is_due_job desk.subject.script (now desk) name)) (run_of_seen desk runs cache levels w ∙ ap (option_map run_seen) is)
    ∙ and_false (nat_le w (last_worker desk.subject)))
  where
    and_false : (b : Bool) → (b && false) ≡ false
    and_false true = refl
    and_false false = refl

pub take_early : (desk : DeskSeen) (runs : List (Option OpenSeen)) (cache : StageCacheSeen) (levels : StoreSeen) (name : JobName) (w : ℕ) → is_due_job desk.subject.script (now desk) name ≡ false
    → step (core_seen desk runs cache levels) (take_event name w) ≡ None
take_early desk runs cache levels name w early =
    take_row desk runs cache levels name w
    ∙ given_off _ _ answer.Done (ap (λ b. nat_le w (last_worker desk.subject) && (is_none (run_of (core_seen desk runs cache levels) w) && b)) early
    ∙ both_off (nat_le w (last_worker desk.subject)) (is_none (run_of (core_seen desk runs cache levels) w)))
  where
    both_off : (a b : Bool) → (a && (b && false)) ≡ false
    both_off true true = refl
    both_off true false = refl
    both_off false b = refl

-- the job is taken, and its run begins
pub took_made : (desk : DeskSeen) (runs : List (Option OpenSeen)) (cache : StageCacheSeen) (levels : StoreSeen) (name : JobName) (w : ℕ) → AreSeated desk runs → w < length runs
    → run_at runs w ≡ None → is_due_job desk.subject.script (now desk) name ≡ true
    → step (core_seen desk runs cache levels) (take_event name w)
    ≡ Some (core_seen (with_entry desk (took_entry name w (now desk).moment)) (slice_set runs w (Some (record { job = job_seen desk.subject name w (moment_for desk name); stage = None; framed = false }))) cache levels, answer.Done)
took_made desk runs cache levels name w k within free due =
    take_row desk runs cache levels name w
    ∙ given_on _ _ answer.Done (both_on (le-leb w (last_worker desk.subject) (omega (arith, within, k.seats))) (both_on (ap (λ r. is_none r) (run_of_seen desk runs cache levels w ∙ ap (option_map run_seen) free)) due))
    ∙ ap (λ s. Some (s, answer.Done)) (took_seen name)
  where
    took_seen : (name : JobName) → with_run (with_core_entry (core_seen desk runs cache levels) (took_entry name w (moment_for desk name))) w (Some (fresh name (moment_for desk name)))
        ≡ core_seen (with_entry desk (took_entry name w (now desk).moment)) (slice_set runs w (Some (record { job = job_seen desk.subject name w (moment_for desk name); stage = None; framed = false }))) cache levels
    took_seen (job.Pipe p) = sym (seen_seat (with_entry desk (entry.Took p w (now desk).moment)) runs cache levels w (Some (record { job = job_seen desk.subject (job.Pipe p) w (now desk).moment; stage = None; framed = false })))
    took_seen (job.Ticket t) = sym (seen_seat (with_entry desk (entry.TicketTook t w)) runs cache levels w (Some (record { job = job_seen desk.subject (job.Ticket t) w (moment_for desk (job.Ticket t)); stage = None; framed = false })))

pub took_seated : (desk : DeskSeen) (runs : List (Option OpenSeen)) (name : JobName) (w : ℕ) (x : OpenSeen) → AreSeated desk runs → w < length runs → run_at runs w ≡ None
    → is_due_job desk.subject.script (now desk) name ≡ true → x.job ≡ job_seen desk.subject name w (moment_for desk name)
    → AreSeated (with_entry desk (took_entry name w (now desk).moment)) (slice_set runs w (Some x))
took_seated desk runs name w x k within free due is =
    seated_entered desk runs (took_entry name w (now desk).moment) w (Some x) k within (take_worker name w (now desk).moment)
    (may_take desk.subject.script (now desk) name w due (idle_free desk runs w k free))
    (ap (λ (j : JobSeen). Some (record { job = j.name; moment = j.moment })) is ∙ took_line desk name w (line_at (run_at runs w)))
    (λ o same.
    let one : x ≡ o = cc in
    subst (IsSeated desk.subject w) one (record { subject_is = ap (λ (j : JobSeen). j.subject) is; worker_is = ap (λ (j : JobSeen). j.worker) is }))

-- ---- ending

end_worker : (name : JobName) (w m : ℕ) → worker_of (done_entry name w m) ≡ w
end_worker (job.Pipe p) w m = refl
end_worker (job.Ticket t) w m = refl

back_worker : (name : JobName) (w : ℕ) → worker_of (back_entry name w) ≡ w
back_worker (job.Pipe p) w = refl
back_worker (job.Ticket t) w = refl

end_line : (script : Recipe) (name : JobName) (w m : ℕ) (before : Option Line) → None ≡ after_act before (act_of script (done_entry name w m))
end_line script (job.Pipe p) w m before = refl
end_line script (job.Ticket t) w m before = refl

back_line : (script : Recipe) (name : JobName) (w : ℕ) (before : Option Line) → None ≡ after_act before (act_of script (back_entry name w))
back_line script (job.Pipe p) w before = refl
back_line script (job.Ticket t) w before = refl

-- a run that ends leaves its seat free
pub done_seated : (desk : DeskSeen) (runs : List (Option OpenSeen)) (w : ℕ) (o : OpenSeen) → AreSeated desk runs → run_at runs w ≡ Some o
    → AreSeated (with_entry desk (done_entry o.job.name w o.job.moment)) (slice_set runs w None)
done_seated desk runs w o k is =
    seated_entered desk runs (done_entry o.job.name w o.job.moment) w None k (run_within runs w o is) (end_worker o.job.name w o.job.moment)
    (may_done desk.subject.script (now desk) w w o.job.name o.job.moment refl (holds_run desk runs w o (k.says w) is)) (end_line desk.subject.script o.job.name w o.job.moment (line_at (run_at runs w)))
    (λ x same. absurd cc)

pub back_seated : (desk : DeskSeen) (runs : List (Option OpenSeen)) (w : ℕ) (o : OpenSeen) → AreSeated desk runs → run_at runs w ≡ Some o
    → AreSeated (with_entry desk (back_entry o.job.name w)) (slice_set runs w None)
back_seated desk runs w o k is =
    seated_entered desk runs (back_entry o.job.name w) w None k (run_within runs w o is) (back_worker o.job.name w)
    (may_back desk.subject.script (now desk) w w o.job.name o.job.moment refl (holds_run desk runs w o (k.says w) is)) (back_line desk.subject.script o.job.name w (line_at (run_at runs w)))
    (λ x same. absurd cc)

-- ---- what becomes of the machine

-- the editor made an entry
pub edited : (desk new : DeskSeen) (runs : List (Option OpenSeen)) (cache : StageCacheSeen) (levels : StoreSeen) (e : Entry) → IsMachine desk runs cache levels → May desk.subject.script (now desk) e
    → act_of desk.subject.script e ≡ Stays → new ≡ with_entry desk e → IsMachine new runs cache levels
edited desk new runs cache levels e k may stays is = subst (λ d. IsMachine d runs cache levels) (sym is) (record { seated = seated_edited desk runs e k.seated may stays; caches = k.caches })

-- the step that a machine's state tells is the desk's next
pub next_is : (desk : DeskSeen) (runs : List (Option OpenSeen)) (cache : StageCacheSeen) (levels : StoreSeen) (seen : Core) (x : Step) (sort : Step → Bool) → core_seen desk runs cache levels ≡ seen
    → slice_get seen.subject.script.steps (desk_at seen).steps ≡ Some x → sort x ≡ true → NextIs sort desk.subject.script (now desk)
next_is desk runs cache levels seen x sort is at on = record {
  step = x;
  stands = subst (λ (v : Core). slice_get v.subject.script.steps (desk_at v).steps ≡ Some x) (sym is) at;
  is_sort = on;
}

-- its entry is made, with this answer
pub edit_made : (desk new : DeskSeen) (runs : List (Option OpenSeen)) (cache : StageCacheSeen) (levels : StoreSeen) (seen : Core) (x : Step) (e : Entry) (a b : Answer) → core_seen desk runs cache levels ≡ seen
    → (desk_at seen).closed ≡ false → slice_get seen.subject.script.steps (desk_at seen).steps ≡ Some x → edit_step desk.subject.script (now desk) x ≡ Some (e, a) → new ≡ with_entry desk e → b ≡ a
    → step seen event.Editor ≡ Some (core_seen new runs cache levels, b)
edit_made desk new runs cache levels seen x e a b is is_open at step_is new_is b_is =
    let open_is : (now desk).closed ≡ false = subst (λ (v : Core). (desk_at v).closed ≡ false) (sym is) is_open in
    let stands : slice_get desk.subject.script.steps (now desk).steps ≡ Some x = subst (λ (v : Core). slice_get v.subject.script.steps (desk_at v).steps ≡ Some x) (sym is) at in
    ap (λ v. step v event.Editor) (sym is)
    ∙ edit_is desk runs cache levels e a (open_on desk.subject.script (now desk) (Some x) open_is stands ∙ step_is)
    ∙ ap (λ d. Some (core_seen d runs cache levels, a)) (sym new_is) ∙ ap (λ i. Some (core_seen new runs cache levels, i)) (sym b_is)

-- the moment after a change
pub moment_behind : (desk new : DeskSeen) (m n : ℕ) → new ≡ with_entry desk (entry.Changed m) → n ≡ (now new).moment → n ≡ m
moment_behind desk new m n is n_is = n_is ∙ ap (λ d. (now d).moment) is ∙ ap (λ (d : Desk). d.moment) (desk_of-push start desk.journal (entry.Changed m))

-- no step is left
pub all_made : {A : Type 0} → (xs : List A) (n : ℕ) → slice_get xs n ≡ None → n ≤ length xs → n ≡ length xs
all_made {A = A} xs n none within =
    ⊎_elim (λ (h : (x : A) × (n < length xs) × (slice_get xs n ≡ Some x) × (get_or xs n x ≡ x)). absurd (none-some h.0 (sym none ∙ h.2)))
    (λ (h : (length xs ≤ n) × (slice_get xs n ≡ None)). omega (arith, within, h.0)) (slice_get_cases xs n).1

-- the seat that was looked at is free
pub seat_free : (r : Option (Bor OpenSeen)) (runs seen : List (Option OpenSeen)) (w : ℕ) → option_copied r ≡ run_at seen w → seen ≡ runs → is_some r ≡ false → run_at runs w ≡ None
seat_free None runs seen w looked is free = ap (λ rs. run_at rs w) (sym is) ∙ sym looked
seat_free (Some r) runs seen w looked is free = absurd cc

-- the job was taken, and its run begins
pub record IsTaken (desk new : DeskSeen) (runs runs2 : List (Option OpenSeen)) (cache : StageCacheSeen) (levels : StoreSeen) (seen : Core) (name : JobName) (w : ℕ) : Type 0 where
  pub keeps : IsMachine new runs2 cache levels
  pub made : step seen (take_event name w) ≡ Some (core_seen new runs2 cache levels, answer.Done)

pub taken : (desk new : DeskSeen) (runs runs2 : List (Option OpenSeen)) (cache : StageCacheSeen) (levels : StoreSeen) (seen : Core) (name : JobName) (w : ℕ) (j : JobSeen) (x : OpenSeen) → IsMachine desk runs cache levels
    → core_seen desk runs cache levels ≡ seen → w < length runs → run_at runs w ≡ None → is_due_job desk.subject.script (now desk) name ≡ true → new ≡ with_entry desk (took_entry name w (now desk).moment)
    → j ≡ job_seen desk.subject name w (moment_for desk name) → x ≡ record { job = j; stage = None; framed = false } → runs2 ≡ slice_set runs w (Some x) → IsTaken desk new runs runs2 cache levels seen name w
taken desk new runs runs2 cache levels seen name w j x k is within free due new_is j_is x_is put =
    let d = with_entry desk (took_entry name w (now desk).moment) in
    let job_is : x.job ≡ job_seen desk.subject name w (moment_for desk name) = ap (λ (y : OpenSeen). y.job) x_is ∙ j_is in
    record {
      keeps = subst (λ e. IsMachine e runs2 cache levels) (sym new_is) (record {
        seated = subst (AreSeated d) (sym put) (took_seated desk runs name w x k.seated within free due job_is);
        caches = k.caches;
      });
      made = ap (λ v. step v (take_event name w)) (sym is) ∙ took_made desk runs cache levels name w k.seated within free due
          ∙ ap (λ i. Some (core_seen d (slice_set runs w (Some (record { job = i; stage = None; framed = false }))) cache levels, answer.Done)) (sym j_is)
          ∙ ap (λ y. Some (core_seen d (slice_set runs w (Some y)) cache levels, answer.Done)) (sym x_is)
          ∙ ap (λ rs. Some (core_seen d rs cache levels, answer.Done)) (sym put)
          ∙ ap (λ e. Some (core_seen e runs2 cache levels, answer.Done)) (sym new_is);
    }

-- ---- a run that ends

-- both are the same where they don't differ
pub not_differ : (a b : Bool) → not (beq a b) ≡ false → a ≡ b
not_differ true true h = refl
not_differ false false h = refl
not_differ true false h = absurd cc
not_differ false true h = absurd cc

-- its job is of the desk's subject
pub of_subject : (desk : DeskSeen) (runs : List (Option OpenSeen)) (w : ℕ) (o : OpenSeen) (j : JobSeen) → AreSeated desk runs → run_at runs w ≡ Some o → j ≡ o.job → j.subject ≡ desk.subject
of_subject desk runs w o j k is j_is = ap (λ (i : JobSeen). i.subject) j_is ∙ (k.jobs w o is).subject_is

pub done_may : (desk : DeskSeen) (runs : List (Option OpenSeen)) (w : ℕ) (o : OpenSeen) (j : JobSeen) → AreSeated desk runs → run_at runs w ≡ Some o → j ≡ o.job
    → May desk.subject.script (now desk) (done_entry j.name j.worker j.moment)
done_may desk runs w o j k is j_is =
    subst (λ (i : JobSeen). May desk.subject.script (now desk) (done_entry i.name i.worker i.moment)) (sym j_is)
    (may_done desk.subject.script (now desk) w o.job.worker o.job.name o.job.moment (k.jobs w o is).worker_is (holds_run desk runs w o (k.says w) is))

pub back_may : (desk : DeskSeen) (runs : List (Option OpenSeen)) (w : ℕ) (o : OpenSeen) (j : JobSeen) → AreSeated desk runs → run_at runs w ≡ Some o → j ≡ o.job
    → May desk.subject.script (now desk) (back_entry j.name j.worker)
back_may desk runs w o j k is j_is =
    subst (λ (i : JobSeen). May desk.subject.script (now desk) (back_entry i.name i.worker)) (sym j_is)
    (may_back desk.subject.script (now desk) w o.job.worker o.job.name o.job.moment (k.jobs w o is).worker_is (holds_run desk runs w o (k.says w) is))

-- the entry is the row's
done_is : (desk new : DeskSeen) (runs : List (Option OpenSeen)) (w : ℕ) (o : OpenSeen) (j : JobSeen) → AreSeated desk runs → run_at runs w ≡ Some o → j ≡ o.job
    → new ≡ with_entry desk (done_entry j.name j.worker j.moment) → new ≡ with_entry desk (done_entry o.job.name w o.job.moment)
done_is desk new runs w o j k is j_is new_is =
    new_is ∙ ap (λ (i : JobSeen). with_entry desk (done_entry i.name i.worker i.moment)) j_is ∙ ap (λ i. with_entry desk (done_entry o.job.name i o.job.moment)) (k.jobs w o is).worker_is

back_is : (desk new : DeskSeen) (runs : List (Option OpenSeen)) (w : ℕ) (o : OpenSeen) (j : JobSeen) → AreSeated desk runs → run_at runs w ≡ Some o → j ≡ o.job
    → new ≡ with_entry desk (back_entry j.name j.worker) → new ≡ with_entry desk (back_entry o.job.name w)
back_is desk new runs w o j k is j_is new_is =
    new_is ∙ ap (λ (i : JobSeen). with_entry desk (back_entry i.name i.worker)) j_is ∙ ap (λ i. with_entry desk (back_entry o.job.name i)) (k.jobs w o is).worker_is

-- its seat is free
left : (desk new : DeskSeen) (runs runs1 : List (Option OpenSeen)) (cache : StageCacheSeen) (levels : StoreSeen) (w : ℕ) (e : Entry) → IsMachine desk runs cache levels
    → AreSeated (with_entry desk e) (slice_set runs w None) → new ≡ with_entry desk e → runs1 ≡ slice_set runs w None → IsMachine new runs1 cache levels
left desk new runs runs1 cache levels w e k seated new_is out =
    subst (λ d. IsMachine d runs1 cache levels) (sym new_is) (record { seated = subst (AreSeated (with_entry desk e)) (sym out) seated; caches = k.caches })

pub done_left : (desk new : DeskSeen) (runs runs1 : List (Option OpenSeen)) (cache : StageCacheSeen) (levels : StoreSeen) (w : ℕ) (o : OpenSeen) (j : JobSeen) → IsMachine desk runs cache levels → run_at runs w ≡ Some o
    → j ≡ o.job → new ≡ with_entry desk (done_entry j.name j.worker j.moment) → runs1 ≡ slice_set runs w None → IsMachine new runs1 cache levels
done_left desk new runs runs1 cache levels w o j k is j_is new_is out =
    left desk new runs runs1 cache levels w (done_entry o.job.name w o.job.moment) k (done_seated desk runs w o k.seated is) (done_is desk new runs w o j k.seated is j_is new_is) out

pub back_left : (desk new : DeskSeen) (runs runs1 : List (Option OpenSeen)) (cache : StageCacheSeen) (levels : StoreSeen) (w : ℕ) (o : OpenSeen) (j : JobSeen) → IsMachine desk runs cache levels → run_at runs w ≡ Some o
    → j ≡ o.job → new ≡ with_entry desk (back_entry j.name j.worker) → runs1 ≡ slice_set runs w None → IsMachine new runs1 cache levels
back_left desk new runs runs1 cache levels w o j k is j_is new_is out =
    left desk new runs runs1 cache levels w (back_entry o.job.name w) k (back_seated desk runs w o k.seated is) (back_is desk new runs w o j k.seated is j_is new_is) out

-- the state that is seen then
left_seen : (desk new : DeskSeen) (runs runs1 : List (Option OpenSeen)) (cache : StageCacheSeen) (levels : StoreSeen) (w : ℕ) (e : Entry) → new ≡ with_entry desk e → runs1 ≡ slice_set runs w None
    → core_seen new runs1 cache levels ≡ ended (core_seen desk runs cache levels) w e
left_seen desk new runs runs1 cache levels w e new_is out =
    ap (λ d. core_seen d runs1 cache levels) new_is ∙ ap (λ rs. core_seen (with_entry desk e) rs cache levels) out ∙ seen_seat (with_entry desk e) runs cache levels w None

deliver_row : (b : Bool) (desk : DeskSeen) (runs : List (Option OpenSeen)) (cache : StageCacheSeen) (levels : StoreSeen) (w : ℕ) (o : OpenSeen) → run_at runs w ≡ Some o → is_pipe o.job.name ≡ b → o.framed ≡ true
    → hold_of levels.levels w ≡ None
    → step (core_seen desk runs cache levels) (deliver_event b w) ≡ Some (ended (core_seen desk runs cache levels) w (done_entry o.job.name w o.job.moment), answer.Done)
deliver_row true desk runs cache levels w o is pipe framed free =
    row_of desk runs cache levels w o row_publish is
    ∙ given_on (is_pipe o.job.name && (o.framed && is_none (hold_of levels.levels w))) (ended (core_seen desk runs cache levels) w (done_entry o.job.name w o.job.moment)) answer.Done
    (both_on pipe (both_on framed (ap (λ h. is_none h) free)))
deliver_row false desk runs cache levels w o is pipe framed free =
    row_of desk runs cache levels w o row_finish_ticket is
    ∙ given_on (not (is_pipe o.job.name) && (o.framed && is_none (hold_of levels.levels w))) (ended (core_seen desk runs cache levels) w (done_entry o.job.name w o.job.moment)) answer.Done
    (both_on (ap (λ b. not b) pipe) (both_on framed (ap (λ h. is_none h) free)))

pub delivered : (desk new : DeskSeen) (runs runs1 : List (Option OpenSeen)) (cache : StageCacheSeen) (levels : StoreSeen) (seen : Core) (b : Bool) (w : ℕ) (o : OpenSeen) (j : JobSeen) → IsMachine desk runs cache levels
    → core_seen desk runs cache levels ≡ seen → run_at runs w ≡ Some o → is_pipe o.job.name ≡ b → o.framed ≡ true → hold_of levels.levels w ≡ None → j ≡ o.job
    → new ≡ with_entry desk (done_entry j.name j.worker j.moment) → runs1 ≡ slice_set runs w None → step seen (deliver_event b w) ≡ Some (core_seen new runs1 cache levels, answer.Done)
delivered desk new runs runs1 cache levels seen b w o j k seen_is is pipe framed free j_is new_is out =
    ap (λ v. step v (deliver_event b w)) (sym seen_is) ∙ deliver_row b desk runs cache levels w o is pipe framed free
    ∙ ap (λ v. Some (v, answer.Done)) (sym (left_seen desk new runs runs1 cache levels w (done_entry o.job.name w o.job.moment) (done_is desk new runs w o j k.seated is j_is new_is) out))

pub given_back : (desk new : DeskSeen) (runs runs1 : List (Option OpenSeen)) (cache : StageCacheSeen) (levels : StoreSeen) (seen : Core) (w : ℕ) (o : OpenSeen) (j : JobSeen) → IsMachine desk runs cache levels
    → core_seen desk runs cache levels ≡ seen → run_at runs w ≡ Some o → hold_of levels.levels w ≡ None → j ≡ o.job → new ≡ with_entry desk (back_entry j.name j.worker) → runs1 ≡ slice_set runs w None
    → step seen (event.GiveBack w) ≡ Some (core_seen new runs1 cache levels, answer.Done)
given_back desk new runs runs1 cache levels seen w o j k seen_is is free j_is new_is out =
    ap (λ v. step v (event.GiveBack w)) (sym seen_is) ∙ row_of desk runs cache levels w o row_give_back is
    ∙ given_on (is_none (hold_of levels.levels w)) (ended (core_seen desk runs cache levels) w (back_entry o.job.name w)) answer.Done (ap (λ h. is_none h) free)
    ∙ ap (λ v. Some (v, answer.Done)) (sym (left_seen desk new runs runs1 cache levels w (back_entry o.job.name w) (back_is desk new runs w o j k.seated is j_is new_is) out))

-- ---- a run that begins anew

-- what it becomes
abbrev pub anew : OpenSeen → ℕ → OpenSeen
anew o m = record { job = record o.job { moment = m }; stage = None; framed = false }

pub anew_may : (desk : DeskSeen) (runs : List (Option OpenSeen)) (w : ℕ) (o : OpenSeen) → AreSeated desk runs → run_at runs w ≡ Some o → is_behind desk.subject.script (now desk) o.job.name o.job.moment ≡ true
    → OfPipe o.job.name (λ p. IsSuperseded desk.subject.script (now desk) p o.job.worker o.job.moment)
anew_may desk runs w o k is behind =
    superseded desk.subject.script (now desk) w o.job.worker o.job.name o.job.moment (k.jobs w o is).worker_is (holds_run desk runs w o (k.says w) is) behind

anew_seated : (name : JobName) (desk new : DeskSeen) (runs : List (Option OpenSeen)) (w : ℕ) (o x : OpenSeen) → name ≡ o.job.name → AreSeated desk runs → run_at runs w ≡ Some o
    → OfPipe name (λ p. IsSuperseded desk.subject.script (now desk) p o.job.worker o.job.moment) → OfPipe name (λ p. new ≡ with_entry desk (entry.Restarted p o.job.worker (now desk).moment))
    → x ≡ anew o (now desk).moment → AreSeated new (slice_set runs w (Some x))
anew_seated (job.Ticket t) desk new runs w o x named k is behind new_is x_is = absurd new_is
anew_seated (job.Pipe p) desk new runs w o x named k is behind new_is x_is =
    let mine = k.jobs w o is in
    subst (λ d. AreSeated d (slice_set runs w (Some x))) (sym new_is)
    (seated_entered desk runs (entry.Restarted p o.job.worker (now desk).moment) w (Some x) k (run_within runs w o is) mine.worker_is (o.job.moment, behind, refl)
    (ap (λ (y : OpenSeen). line_at (Some y)) x_is ∙ ap (λ n. Some (record { job = n; moment = (now desk).moment })) (sym named))
    (λ y same.
    subst (IsSeated desk.subject w) (same_Some x y same)
    (record { subject_is = ap (λ (z : OpenSeen). z.job.subject) x_is ∙ mine.subject_is; worker_is = ap (λ (z : OpenSeen). z.job.worker) x_is ∙ mine.worker_is })))

anew_seen : (name : JobName) (desk new : DeskSeen) (runs : List (Option OpenSeen)) (cache : StageCacheSeen) (levels : StoreSeen) (w : ℕ) (o x : OpenSeen) → name ≡ o.job.name → o.job.worker ≡ w
    → OfPipe name (λ p. new ≡ with_entry desk (entry.Restarted p o.job.worker (now desk).moment)) → x ≡ anew o (now desk).moment
    → core_seen new (slice_set runs w (Some x)) cache levels
    ≡ with_run (record (core_seen desk runs cache levels) { journal = desk.journal ++ restart_entry name w (now desk).moment }) w (Some (fresh name (now desk).moment))
anew_seen (job.Ticket t) desk new runs cache levels w o x named mine new_is x_is = absurd new_is
anew_seen (job.Pipe p) desk new runs cache levels w o x named mine new_is x_is =
    let m = (now desk).moment in
    ap (λ d. core_seen d (slice_set runs w (Some x)) cache levels) new_is
    ∙ seen_seat (with_entry desk (entry.Restarted p o.job.worker m)) runs cache levels w (Some x)
    ∙ ap (λ i. with_run (core_seen (with_entry desk (entry.Restarted p i m)) runs cache levels) w (Some (run_seen x))) mine
    ∙ ap (λ y. with_run (core_seen (with_entry desk (entry.Restarted p w m)) runs cache levels) w (Some (run_seen y))) x_is
    ∙ ap (λ n. with_run (core_seen (with_entry desk (entry.Restarted p w m)) runs cache levels) w (Some (fresh n m))) (sym named)

pub record IsAnew (new : DeskSeen) (runs2 : List (Option OpenSeen)) (cache : StageCacheSeen) (levels : StoreSeen) (seen : Core) (w : ℕ) : Type 0 where
  pub keeps : IsMachine new runs2 cache levels
  pub made : of_run seen w row_restart ≡ Some (core_seen new runs2 cache levels, answer.Done)

pub began_anew : (desk new : DeskSeen) (runs runs1 runs2 : List (Option OpenSeen)) (cache : StageCacheSeen) (levels : StoreSeen) (seen : Core) (w : ℕ) (o x : OpenSeen) → IsMachine desk runs cache levels
    → core_seen desk runs cache levels ≡ seen → run_at runs w ≡ Some o → is_behind desk.subject.script (now desk) o.job.name o.job.moment ≡ true → hold_of levels.levels w ≡ None
    → OfPipe o.job.name (λ p. new ≡ with_entry desk (entry.Restarted p o.job.worker (now desk).moment)) → x ≡ anew o (now desk).moment → runs1 ≡ slice_set runs w None → runs2 ≡ slice_set runs1 w (Some x)
    → new.subject ≡ desk.subject → IsAnew new runs2 cache levels seen w
began_anew desk new runs runs1 runs2 cache levels seen w o x k seen_is is behind free new_is x_is out back subject =
    let s = core_seen desk runs cache levels in
    let put : runs2 ≡ slice_set runs w (Some x) = put_back runs runs1 runs2 w (Some x) out back in
    record {
      keeps = record {
        seated = subst (AreSeated new) (sym put) (anew_seated o.job.name desk new runs w o x refl k.seated is (anew_may desk runs w o k.seated is behind) new_is x_is);
        caches = subst (λ subject. CachesOf subject cache levels) (sym subject) k.caches;
      };
      made = ap (λ v. of_run v w row_restart) (sym seen_is) ∙ row_of desk runs cache levels w o row_restart is
          ∙ given_on (is_later s (run_seen o) && is_none (hold_of levels.levels w))
          (with_run (record s { journal = desk.journal ++ restart_entry o.job.name w (now desk).moment }) w (Some (fresh o.job.name (now desk).moment))) answer.Done (both_on behind (ap (λ h. is_none h) free))
          ∙ ap (λ v. Some (v, answer.Done)) (sym (ap (λ rs. core_seen new rs cache levels) put ∙ anew_seen o.job.name desk new runs cache levels w o x refl (k.seated.jobs w o is).worker_is new_is x_is));
    }

-- an entry of a pipe leaves the subject
pub anew_subject : (name : JobName) (desk new : DeskSeen) (w m : ℕ) → OfPipe name (λ p. new ≡ with_entry desk (entry.Restarted p w m)) → new.subject ≡ desk.subject
anew_subject (job.Pipe p) desk new w m is = ap (λ (d : DeskSeen). d.subject) is
anew_subject (job.Ticket t) desk new w m is = absurd is
