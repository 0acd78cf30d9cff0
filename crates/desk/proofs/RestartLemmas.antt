-- a turn in which a job begins anew
use Rattle.std.proofs.Common.{◌≡◌, ℕ, ◌<◌, ◌≤◌, Some, Ok, Err, sym, ap, subst, ◌∙◌, arith}
use Rattle.std.specs.Prelude.{Result, OnOk, OnErr}
use Rattle.std.specs.declared.alloc.AllocError.{AllocError}
use Rattle.outside.specs.declared.job_name.JobName.{JobName}
use Rattle.outside.specs.declared.job_name.JobName.TheVariants as job
use Rattle.outside.specs.declared.job_name.Pipe.{Pipe}
use Rattle.edit_steps.specs.Script.{Recipe}
use Rattle.journal.specs.declared.entry.Entry.TheVariants as entry
use Rattle.journal.specs.Own.{worker_of}
use Rattle.journal.specs.Desk.{Later}
use Rattle.journal.proofs.LaterLemmas.{later_rises}
use Rattle.turn_lock.specs.Story.{AllBear}
use Rattle.dev_core.specs.DeskState.{DeskSeen, now, with_entry}
use Rattle.dev_core.specs.Jobs.{JobSeen, OfPipe}
use Rattle.desk.specs.Passes.{DeskLock, DeskKnown, holding, line_of_job, HasJob}
use Rattle.desk.specs.Turns.{OneTurn, Entered, Began, Ended}
use Rattle.desk.specs.Given.{anew, restart_adds}
use Rattle.desk.proofs.TurnLemmas.{TookTurn, took_turn}
use Rattle.desk.proofs.StepLemmas.{entered_by, entered_none, moment_after}
use Rattle.desk.proofs.HoldLemmas.{held_then, held_still, anew_bears}

-- what the desk says of a restart: on Ok its entry, at the present moment
abbrev Restarts : DeskSeen → DeskSeen → JobSeen → Type 0
Restarts old new j = OfPipe j.name (λ p. new ≡ with_entry old (entry.Restarted p j.worker (now old).moment))

abbrev at_moment : JobSeen → ℕ → JobSeen
at_moment j m = record j { moment = m }

anew_entered : (old new : DeskSeen) (name : JobName) (w m : ℕ) → OfPipe name (λ p. new ≡ with_entry old (entry.Restarted p w m)) → Entered old new (anew name w m)
anew_entered old new (job.Pipe p) w m is = entered_by old new (entry.Restarted p w m) is
anew_entered old new (job.Ticket t) w m is = absurd is

anew_moment : (old new : DeskSeen) (name : JobName) (w m : ℕ) → OfPipe name (λ p. new ≡ with_entry old (entry.Restarted p w m)) → (now new).moment ≡ (now old).moment
anew_moment old new (job.Pipe p) w m is = moment_after old new (entry.Restarted p w m) is
anew_moment old new (job.Ticket t) w m is = absurd is

anew_holds : (script : Recipe) (name : JobName) (w m : ℕ) (P : Pipe → Type 0) (old new : DeskKnown) → OfPipe name P → OneTurn old new (anew name w m)
    → holding script new.own ≡ Some (record { job = name; moment = m })
anew_holds script (job.Pipe p) w m P old new pipe t = held_then script old new _ t
anew_holds script (job.Ticket k) w m P old new pipe t = absurd pipe

later_above : (script : Recipe) (name : JobName) (a b : ℕ) → OfPipe name (λ p. Later script p a b) → a < b
later_above script (job.Pipe p) a b later = later_rises script p a b later
later_above script (job.Ticket t) a b later = absurd later

pub restart_entered : (old new : DeskSeen) (j k : JobSeen) (r : Result (Unit {0}) AllocError) → OnOk r (Restarts old new j) → OnOk r (k ≡ at_moment j (now old).moment)
    → OnErr r ((new ≡ old) × (k ≡ j)) → Entered old new (restart_adds k r)
restart_entered old new j k (Ok u) restarts is err = subst (λ (x : JobSeen). Entered old new (anew x.name x.worker x.moment)) (sym is) (anew_entered old new j.name j.worker (now old).moment restarts)
restart_entered old new j k (Err e) ok is err = entered_none old new err.0

pub restart_bears : (old new : DeskSeen) (j k : JobSeen) (r : Result (Unit {0}) AllocError) (n : ℕ) → j.worker ≡ n → OnOk r (k ≡ at_moment j (now old).moment)
    → OnErr r ((new ≡ old) × (k ≡ j)) → AllBear worker_of n (restart_adds k r)
restart_bears old new j k (Ok u) n mine is err = anew_bears k.name k.worker k.moment n (ap (λ x. x.worker) is ∙ mine)
restart_bears old new j k (Err e) n mine is err = tt

-- what is said of the job afterwards
pub record RestartTurn (desk : DeskLock) (old new : DeskKnown) (j k : JobSeen) (r : Result (Unit {0}) AllocError) : Type 0 where
  pub took : TookTurn desk old new (restart_adds k r)
  pub job : k ≡ record j { moment = k.moment }
  pub moment : OnOk r (k.moment ≡ new.mark)
  pub rises : OnOk r (j.moment < k.moment)
  pub same : OnErr r (k ≡ j)
  pub holds : HasJob desk new k

restarted : (desk : DeskLock) (old new : DeskKnown) (found after : DeskSeen) (j k : JobSeen) (r : Result (Unit {0}) AllocError) → old.mark ≤ (now found).moment → HasJob desk old j
    → OfPipe j.name (λ p. Later desk.name.script p j.moment old.mark) → OnOk r (Restarts found after j) → OnOk r (k ≡ at_moment j (now found).moment) → OnErr r ((after ≡ found) × (k ≡ j))
    → new.mark ≡ (now after).moment → TookTurn desk old new (restart_adds k r) → RestartTurn desk old new j k r
restarted desk old new found after j k (Ok u) rose h later restarts is err mark t =
    let at : k.moment ≡ (now found).moment = ap (λ x. x.moment) is in
    let above = later_above desk.name.script j.name j.moment old.mark later in record {
      took = t;
      job = is ∙ ap (at_moment j) (sym at);
      moment = at ∙ (sym (anew_moment found after j.name j.worker (now found).moment restarts) ∙ sym mark);
      rises = omega (arith, above, rose, at);
      same = tt;
      holds = record {
        subject_is = ap (λ x. x.subject) is ∙ h.subject_is;
        worker_is = ap (λ x. x.worker) is ∙ (h.worker_is ∙ sym t.number);
        last = anew_holds desk.name.script k.name k.worker k.moment (λ p. Later desk.name.script p j.moment old.mark) old new
            (subst (λ n. OfPipe n (λ p. Later desk.name.script p j.moment old.mark)) (sym (ap (λ (x : JobSeen). x.name) is)) later) t.turn;
      };
    }
restarted desk old new found after j k (Err e) rose h later restarts is err mark t = record {
  took = t;
  job = err.1 ∙ ap (at_moment j) (sym (ap (λ x. x.moment) err.1));
  moment = tt;
  rises = tt;
  same = err.1;
  holds = record {
    subject_is = ap (λ x. x.subject) err.1 ∙ h.subject_is;
    worker_is = ap (λ x. x.worker) err.1 ∙ (h.worker_is ∙ sym t.number);
    last = held_still desk.name.script old new t.turn ∙ (h.last ∙ ap (λ x. Some (line_of_job x)) (sym err.1));
  };
}

pub restart_turn : (desk : DeskLock) (old mid new : DeskKnown) (found after : DeskSeen) (j k : JobSeen) (r : Result (Unit {0}) AllocError) → Began desk old mid found → HasJob desk old j
    → OfPipe j.name (λ p. Later desk.name.script p j.moment old.mark) → OnOk r (Restarts found after j) → OnOk r (k ≡ at_moment j (now found).moment) → OnErr r ((after ≡ found) × (k ≡ j))
    → Ended mid new after → RestartTurn desk old new j k r
restart_turn desk old mid new found after j k r b h later ok is err ended =
    let e = restart_entered found after j k r ok is err in
    let t = took_turn desk old mid found after (restart_adds k r) b e (restart_bears found after j k r old.number h.worker_is is err) new ended in
    restarted desk old new found after j k r b.rose h later ok is err (ap (λ p. p.mark) ended.gave) t
