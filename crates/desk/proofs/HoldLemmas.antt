-- what a pass holds, and what its worker may do at the desk that its turn found
use Rattle.std.proofs.Common.{◌≡◌, ℕ, ◌≤◌, Bool, true, false, List, [], ◌∷◌, ◌++◌, Option, Some, None, Ok, Err, refl, sym, ap, subst, ◌∙◌, arith}
use Rattle.std.proofs.lemmas.List.{append-nil}
use Rattle.std.specs.Prelude.{Result}
use Rattle.std.specs.declared.alloc.AllocError.{AllocError}
use Rattle.outside.specs.declared.job_name.JobName.{JobName}
use Rattle.outside.specs.declared.job_name.JobName.TheVariants as job
use Rattle.edit_steps.specs.Script.{Recipe}
use Rattle.journal.specs.declared.entry.Entry.{Entry}
use Rattle.journal.specs.Tickets.{asked_moment}
use Rattle.journal.specs.Desk.{Desk, May, Later, IsSuperseded, IsIdle}
use Rattle.journal.specs.Lines.{Line}
use Rattle.journal.specs.Own.{Act, after_act, held, act_of, worker_of, HoldsJob, Says}
use Rattle.journal.proofs.OwnLemmas.{says_now}
use Rattle.journal.proofs.LaterLemmas.{later_wider}
use Rattle.turn_lock.specs.Story.{AllBear}
use Rattle.dev_core.specs.Subject.{SubjectSeen}
use Rattle.dev_core.specs.DeskState.{DeskSeen}
use Rattle.dev_core.specs.Jobs.{JobSeen, OfPipe, done_entry, back_entry}
use Rattle.desk.specs.declared.edited.Edited.{Edited}
use Rattle.desk.specs.declared.edited.Edited.TheVariants as did
use Rattle.desk.specs.Passes.{DeskLock, DeskKnown, holding, HasJob, HasNoJob}
use Rattle.desk.specs.Turns.{desk_after, OneTurn, Began}
use Rattle.desk.specs.Edits.{edit_adds}
use Rattle.desk.specs.Given.{anew}
use Rattle.desk.specs.Stops.{stop_adds}

-- ---- one entry more

held_more : (act : Entry → Act) (has : Option Line) (es : List Entry) (e : Entry) → held act has (es ++ e ∷ []) ≡ after_act (held act has es) (act e)
held_more act has [] e = refl
held_more act has (x ∷ es) e = held_more act (after_act has (act x)) es e

-- what a pass holds after an entry of its own
pub held_then : (script : Recipe) (old new : DeskKnown) (e : Entry) → OneTurn old new (e ∷ []) → holding script new.own ≡ after_act (holding script old.own) (act_of script e)
held_then script old new e t = ap (λ p. holding script p.own) t.pass ∙ held_more (act_of script) None old.own e

-- after none
pub held_still : (script : Recipe) (old new : DeskKnown) → OneTurn old new [] → holding script new.own ≡ holding script old.own
held_still script old new t = ap (λ p. holding script p.own) t.pass ∙ ap (holding script) (append-nil old.own)

-- ---- the desk that a turn found

module _ (desk : DeskLock) (old mid : DeskKnown) (found : DeskSeen) (b : Began desk old mid found) where
  says_found : Says found.subject.script (desk_after found.journal) old.number (holding desk.name.script old.own)
  says_found =
      subst (Says found.subject.script (desk_after found.journal) old.number) (λ i. held (act_of (b.subject i).script) None (b.owned i))
      (says_now found.subject.script old.number found.journal b.legal)

  none_line : (l : Line) → ◌≡◌ {A = Option Line} None (Some l) → ⊥
  none_line l e = cc

  -- a pass that holds no job has none there
  pub idle_found : HasNoJob desk old → IsIdle (desk_after found.journal) old.number
  idle_found free = record {
    pipes_free = λ p m h. none_line _ (sym free ∙ (says_found (job.Pipe p) m).0 h);
    tickets_free = λ t h. none_line _ (sym free ∙ (says_found (job.Ticket t) (asked_moment found.subject.script t)).0 (h, refl));
  }

  -- a job that the pass holds is out there
  pub job_found : (j : JobSeen) → HasJob desk old j → HoldsJob found.subject.script (desk_after found.journal) j.worker j.name j.moment
  job_found j h = subst (λ n. HoldsJob found.subject.script (desk_after found.journal) n j.name j.moment) (sym h.worker_is) ((says_found j.name j.moment).1 h.last)

  pub subject_found : (j : JobSeen) → HasJob desk old j → j.subject ≡ found.subject
  subject_found j h = h.subject_is ∙ sym b.subject

may_done : (script : Recipe) (d : Desk) (w : ℕ) (name : JobName) (m : ℕ) → HoldsJob script d w name m → May script d (done_entry name w m)
may_done script d w (job.Pipe p) m h = h
may_done script d w (job.Ticket t) m h = h.0

may_back : (script : Recipe) (d : Desk) (w : ℕ) (name : JobName) (m : ℕ) → HoldsJob script d w name m → May script d (back_entry name w)
may_back script d w (job.Pipe p) m h = (m, h)
may_back script d w (job.Ticket t) m h = h.0

superseded : (script : Recipe) (d : Desk) (w mark : ℕ) (name : JobName) (m : ℕ) → mark ≤ d.moment → HoldsJob script d w name m → OfPipe name (λ p. Later script p m mark)
    → OfPipe name (λ p. IsSuperseded script d p w m)
superseded script d w mark (job.Pipe p) m rose h later = (h, later_wider script p m m mark d.moment (omega arith) rose later)
superseded script d w mark (job.Ticket t) m rose h later = later

module _ (desk : DeskLock) (old mid : DeskKnown) (found : DeskSeen) (b : Began desk old mid found) (j : JobSeen) (h : HasJob desk old j) where
  -- it may be ended there, with its frame or without
  pub done_found : May found.subject.script (desk_after found.journal) (done_entry j.name j.worker j.moment)
  done_found = may_done found.subject.script (desk_after found.journal) j.worker j.name j.moment (job_found desk old mid found b j h)

  pub back_found : May found.subject.script (desk_after found.journal) (back_entry j.name j.worker)
  back_found = may_back found.subject.script (desk_after found.journal) j.worker j.name j.moment (job_found desk old mid found b j h)

  -- and may begin anew where a mark that the pass has seen shows a change that concerns it
  pub superseded_found : OfPipe j.name (λ p. Later desk.name.script p j.moment old.mark)
      → OfPipe j.name (λ p. IsSuperseded found.subject.script (desk_after found.journal) p j.worker j.moment)
  superseded_found later =
      superseded found.subject.script (desk_after found.journal) j.worker old.mark j.name j.moment b.rose (job_found desk old mid found b j h)
      (subst (λ (s : SubjectSeen). OfPipe j.name (λ p. Later s.script p j.moment old.mark)) (sym b.subject) later)

-- ---- whose the entries are, and what they leave

pub edit_bears : (moment : ℕ) (r : Result Edited AllocError) (n : ℕ) → n ≡ 0 → AllBear worker_of n (edit_adds moment r)
edit_bears moment (Ok (did.Changed m)) n is = (sym is, tt)
edit_bears moment (Ok (did.Asked t)) n is = (sym is, tt)
edit_bears moment (Ok did.Settled) n is = (sym is, tt)
edit_bears moment (Ok did.Closed) n is = (sym is, tt)
edit_bears moment (Ok did.Unsettled) n is = tt
edit_bears moment (Ok did.AllDone) n is = tt
edit_bears moment (Err e) n is = tt

-- what the editor does leaves the job that it holds
pub edit_holds : (script : Recipe) (moment : ℕ) (r : Result Edited AllocError) (old new : DeskKnown) → OneTurn old new (edit_adds moment r) → holding script new.own ≡ holding script old.own
edit_holds script moment (Ok (did.Changed m)) old new t = held_then script old new _ t
edit_holds script moment (Ok (did.Asked k)) old new t = held_then script old new _ t
edit_holds script moment (Ok did.Settled) old new t = held_then script old new _ t
edit_holds script moment (Ok did.Closed) old new t = held_then script old new _ t
edit_holds script moment (Ok did.Unsettled) old new t = held_still script old new t
edit_holds script moment (Ok did.AllDone) old new t = held_still script old new t
edit_holds script moment (Err e) old new t = held_still script old new t

pub stop_bears : (n : ℕ) (before : Bool) → AllBear worker_of n (stop_adds n before)
stop_bears n true = tt
stop_bears n false = (refl, tt)

pub stop_holds : (script : Recipe) (n : ℕ) (before : Bool) (old new : DeskKnown) → OneTurn old new (stop_adds n before) → holding script new.own ≡ holding script old.own
stop_holds script n true old new t = held_still script old new t
stop_holds script n false old new t = held_then script old new _ t

pub done_bears : (name : JobName) (w m n : ℕ) → w ≡ n → AllBear worker_of n (done_entry name w m ∷ [])
done_bears (job.Pipe p) w m n is = (is, tt)
done_bears (job.Ticket t) w m n is = (is, tt)

pub back_bears : (name : JobName) (w n : ℕ) → w ≡ n → AllBear worker_of n (back_entry name w ∷ [])
back_bears (job.Pipe p) w n is = (is, tt)
back_bears (job.Ticket t) w n is = (is, tt)

pub anew_bears : (name : JobName) (w m n : ℕ) → w ≡ n → AllBear worker_of n (anew name w m)
anew_bears (job.Pipe p) w m n is = (is, tt)
anew_bears (job.Ticket t) w m n is = tt

pub done_holds : (script : Recipe) (name : JobName) (w m : ℕ) (old new : DeskKnown) → OneTurn old new (done_entry name w m ∷ []) → holding script new.own ≡ None
done_holds script (job.Pipe p) w m old new t = held_then script old new _ t
done_holds script (job.Ticket k) w m old new t = held_then script old new _ t

pub back_holds : (script : Recipe) (name : JobName) (w : ℕ) (old new : DeskKnown) → OneTurn old new (back_entry name w ∷ []) → holding script new.own ≡ None
back_holds script (job.Pipe p) w old new t = held_then script old new _ t
back_holds script (job.Ticket k) w old new t = held_then script old new _ t
