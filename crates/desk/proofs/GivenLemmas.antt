-- a job that is given to a worker
use Rattle.std.proofs.Common.{◌≡◌, ℕ, [], ◌∷◌, Option, Some, None, Ok, Err, refl, sym, ap, subst, ◌∙◌}
use Rattle.std.proofs.lemmas.List.{append-nil}
use Rattle.std.specs.Prelude.{Result, IfOk, IfSome}
use Rattle.std.specs.declared.alloc.AllocError.{AllocError}
use Rattle.outside.specs.declared.job_name.JobName.{JobName}
use Rattle.outside.specs.declared.job_name.JobName.TheVariants as job
use Rattle.edit_steps.specs.Script.{Recipe}
use Rattle.journal.specs.Own.{worker_of}
use Rattle.journal.specs.Desk.{Desk, start, next, due}
use Rattle.journal.proofs.PushLemmas.{desk_of-push}
use Rattle.turn_lock.specs.Story.{AllBear}
use Rattle.dev_core.specs.Subject.{SubjectSeen}
use Rattle.dev_core.specs.DeskState.{DeskSeen, now}
use Rattle.dev_core.specs.Jobs.{JobSeen, took_entry}
use Rattle.desk.specs.Passes.{DeskLock, DeskKnown, holding, HasNoJob, HasJust}
use Rattle.desk.specs.Turns.{desk_after, OneTurn, Found, Entered, Began, Ended}
use Rattle.desk.specs.Given.{taken, tried_job, found_job, name_in, given_moment, IsGivenAt, IsPolled}
use Rattle.desk.specs.declared.next_job.NextJob.{NextJob}
use Rattle.desk.proofs.HoldLemmas.{held_then, held_still}
use Rattle.desk.proofs.TurnLemmas.{TookTurn, took_turn, found_so}

took_bears : (name : JobName) (w m n : ℕ) → w ≡ n → AllBear worker_of n (took_entry name w m ∷ [])
took_bears (job.Pipe p) w m n is = (is, tt)
took_bears (job.Ticket t) w m n is = (is, tt)

pub taken_bears : (s : SubjectSeen) (n m : ℕ) (o : Option JobSeen) → IfSome o (IsGivenAt s n m) → AllBear worker_of n (taken o)
taken_bears s n m None g = tt
taken_bears s n m (Some j) g = took_bears j.name j.worker j.moment n g.worker_is

took_holds : (script : Recipe) (w k moment : ℕ) (old new : DeskKnown) (name : JobName) → k ≡ given_moment script moment name → OneTurn old new (took_entry name w k ∷ [])
    → holding script new.own ≡ Some (record { job = name; moment = k })
took_holds script w k moment old new (job.Pipe p) is t = held_then script old new _ t
took_holds script w k moment old new (job.Ticket q) is t = held_then script old new _ t ∙ ap (λ m. Some (record { job = job.Ticket q; moment = m })) (sym is)

-- the moment stays
took_stays : (d : Desk) (name : JobName) (w m : ℕ) → (next d (took_entry name w m)).moment ≡ d.moment
took_stays d (job.Pipe p) w m = refl
took_stays d (job.Ticket t) w m = refl

taken_stays : (found after : DeskSeen) (o : Option JobSeen) → Entered found after (taken o) → (desk_after after.journal).moment ≡ (desk_after found.journal).moment
taken_stays found after None e = ap (λ s. (desk_after s).moment) (e.journal ∙ append-nil found.journal)
taken_stays found after (Some j) e =
    ap (λ s. (desk_after s).moment) e.journal ∙ ap (λ (d : Desk). d.moment) (desk_of-push start found.journal (took_entry j.name j.worker j.moment))
    ∙ took_stays (desk_after found.journal) j.name j.worker j.moment

-- what a turn says of the job that it gives
pub record GaveJob (desk : DeskLock) (new : DeskKnown) (o : Option JobSeen) : Type 0 where
  pub given : IfSome o (IsGivenAt desk.name new.number new.mark)
  pub holds : HasJust desk new o

given_now : (desk : DeskLock) (s : SubjectSeen) (n m : ℕ) (new : DeskKnown) (o : Option JobSeen) → s ≡ desk.name → new.number ≡ n → new.mark ≡ m → IfSome o (IsGivenAt s n m)
    → IfSome o (IsGivenAt desk.name new.number new.mark)
given_now desk s n m new None same number mark g = tt
given_now desk s n m new (Some j) same number mark g = record {
  subject_is = g.subject_is ∙ same;
  worker_is = g.worker_is ∙ sym number;
  moment_is = g.moment_is ∙ (λ i. given_moment (same i).script (sym mark i) j.name);
}

holds_now : (desk : DeskLock) (old new : DeskKnown) (o : Option JobSeen) → HasNoJob desk old → OneTurn old new (taken o) → IfSome o (IsGivenAt desk.name new.number new.mark) → HasJust desk new o
holds_now desk old new None free t g = held_still desk.name.script old new t ∙ free
holds_now desk old new (Some j) free t g = record {
  subject_is = g.subject_is;
  worker_is = g.worker_is;
  last = took_holds desk.name.script j.worker j.moment new.mark old new j.name g.moment_is t;
}

pub gave_job : (desk : DeskLock) (old mid new : DeskKnown) (found after : DeskSeen) (o : Option JobSeen) → Began desk old mid found → HasNoJob desk old → Entered found after (taken o)
    → IfSome o (IsGivenAt found.subject old.number (desk_after found.journal).moment) → TookTurn desk old new (taken o) → new.seen ≡ after.journal → GaveJob desk new o
gave_job desk old mid new found after o b free e g t seen =
    let mark : new.mark ≡ (desk_after found.journal).moment = t.mark ∙ (ap (λ s. (desk_after s).moment) seen ∙ taken_stays found after o e) in
    let given = given_now desk found.subject old.number (desk_after found.journal).moment new o b.subject t.number mark g in record {
      given = given;
      holds = holds_now desk old new o free t.turn given;
    }

-- ---- what is said of a turn that may give a job

pub record TryTurn (desk : DeskLock) (old new : DeskKnown) (r : Result (Option JobSeen) AllocError) : Type 0 where
  pub took : TookTurn desk old new (taken (tried_job r))
  pub answer : IfOk r (λ o. Found new.seen (taken (tried_job r)) (λ d. due desk.name.script d ≡ name_in o))
  pub gave : GaveJob desk new (tried_job r)

try_answer : (s : SubjectSeen) (desk : DeskLock) (found : DeskSeen) (new : DeskKnown) (r : Result (Option JobSeen) AllocError) → s ≡ desk.name
    → ((IsSo : Desk → Type 0) → IsSo (now found) → Found new.seen (taken (tried_job r)) IsSo) → IfOk r (λ o. due s.script (now found) ≡ name_in o)
    → IfOk r (λ o. Found new.seen (taken (tried_job r)) (λ d. due desk.name.script d ≡ name_in o))
try_answer s desk found new (Ok o) same so is = so (λ d. due desk.name.script d ≡ name_in o) (subst (λ (x : SubjectSeen). due x.script (now found) ≡ name_in o) same is)
try_answer s desk found new (Err e) same so is = tt

pub try_turn : (desk : DeskLock) (old mid new : DeskKnown) (found after : DeskSeen) (r : Result (Option JobSeen) AllocError) → Began desk old mid found → HasNoJob desk old
    → Entered found after (taken (tried_job r)) → IfSome (tried_job r) (IsGivenAt found.subject old.number (now found).moment) → Ended mid new after
    → IfOk r (λ o. due found.subject.script (now found) ≡ name_in o) → TryTurn desk old new r
try_turn desk old mid new found after r b free e g ended is =
    let o = tried_job r in
    let bear = taken_bears found.subject old.number (now found).moment o g in
    let t = took_turn desk old mid found after (taken o) b e bear new ended in record {
      took = t;
      answer = try_answer found.subject desk found new r b.subject (λ IsSo so. found_so desk old mid found after (taken o) b e bear new IsSo ended so) is;
      gave = gave_job desk old mid new found after o b free e g t (ap (λ p. p.seen) ended.gave);
    }

pub record PollTurn (desk : DeskLock) (old new : DeskKnown) (r : Result (Option NextJob) AllocError) : Type 0 where
  pub took : TookTurn desk old new (taken (found_job r))
  pub answer : IfOk r (λ o. Found new.seen (taken (found_job r)) (IsPolled desk.name.script o))
  pub gave : GaveJob desk new (found_job r)

poll_answer : (s : SubjectSeen) (desk : DeskLock) (found : DeskSeen) (new : DeskKnown) (r : Result (Option NextJob) AllocError) → s ≡ desk.name
    → ((IsSo : Desk → Type 0) → IsSo (now found) → Found new.seen (taken (found_job r)) IsSo) → IfOk r (λ o. IsPolled s.script o (now found))
    → IfOk r (λ o. Found new.seen (taken (found_job r)) (IsPolled desk.name.script o))
poll_answer s desk found new (Ok o) same so is = so (IsPolled desk.name.script o) (subst (λ (x : SubjectSeen). IsPolled x.script o (now found)) same is)
poll_answer s desk found new (Err e) same so is = tt

pub poll_turn : (desk : DeskLock) (old mid new : DeskKnown) (found after : DeskSeen) (r : Result (Option NextJob) AllocError) → Began desk old mid found → HasNoJob desk old
    → Entered found after (taken (found_job r)) → IfSome (found_job r) (IsGivenAt found.subject old.number (now found).moment) → Ended mid new after
    → IfOk r (λ o. IsPolled found.subject.script o (now found)) → PollTurn desk old new r
poll_turn desk old mid new found after r b free e g ended is =
    let o = found_job r in
    let bear = taken_bears found.subject old.number (now found).moment o g in
    let t = took_turn desk old mid found after (taken o) b e bear new ended in record {
      took = t;
      answer = poll_answer found.subject desk found new r b.subject (λ IsSo so. found_so desk old mid found after (taken o) b e bear new IsSo ended so) is;
      gave = gave_job desk old mid new found after o b free e g t (ap (λ p. p.seen) ended.gave);
    }
