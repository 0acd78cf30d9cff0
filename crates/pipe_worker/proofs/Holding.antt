-- A pass that has a job, and the entries by which it begins the job anew and ends it.
use Rattle.std.proofs.Common.{◌≡◌, ℕ, Bool, true, false, if◌then◌else◌, List, [], ◌∷◌, ◌++◌, refl, sym, ap, ◌∙◌, subst, append-nil}
use Rattle.outside.specs.declared.job_name.JobName.{JobName}
use Rattle.outside.specs.declared.job_name.JobName.TheVariants as job
use Rattle.outside.specs.declared.job_name.Pipe.{Pipe}
use Rattle.edit_steps.specs.Script.{Recipe, concerns_between}
use Rattle.journal.specs.declared.entry.Entry.{Entry}
use Rattle.journal.specs.declared.entry.Entry.TheVariants as entry
use Rattle.journal.specs.Desk.{Later}
use Rattle.journal.specs.Own.{worker_of}
use Rattle.turn_lock.specs.Turned.{Turned}
use Rattle.dev_core.specs.Jobs.{JobSeen, OfPipe, done_entry, back_entry}
use Rattle.desk.specs.Passes.{DeskLock, HasJob, holding}
use Rattle.desk.specs.Given.{anew}
use Rattle.pipe_worker.specs.declared.looks.Looked.{Looked}
use Rattle.pipe_worker.specs.declared.looks.Looked.TheVariants as looked
use Rattle.pipe_worker.specs.Job.{looked_at}
use Rattle.pipe_worker.specs.Grew.{DeskKnown, Grew, Saw, Shows}
use Rattle.pipe_worker.proofs.Growing.{grew_turned}

-- looks leave the job with the pass
pub holds_saw : (desk : DeskLock) (j : JobSeen) (a b : DeskKnown) (n : ℕ) → Saw j a b n → HasJob desk a j → HasJob desk b j
holds_saw desk j a b n s h = record {
  subject_is = h.subject_is;
  worker_is = h.worker_is ∙ sym s.grew.bears;
  last = ap (holding desk.name.script) (s.grew.own ∙ append-nil a.own) ∙ h.last;
}

pub of_pipe : (name : JobName) (p : Pipe) → name ≡ job.Pipe p → OfPipe name (λ q. Unit {0})
of_pipe name p is = subst (λ n. OfPipe n (λ q. Unit {0})) (sym is) tt

behind_is : (b : Bool) (k : ℕ) → (if b then looked.Superseded k else looked.Go) ≡ looked.Superseded k → b ≡ true
behind_is true k e = refl
behind_is false k e = absurd cc

later_by : (script : Recipe) (name : JobName) (m k : ℕ) → looked_at script name m k ≡ looked.Superseded k → OfPipe name (λ p. Later script p m k)
later_by script (job.Pipe p) m k e = behind_is (concerns_between script p m k) k e
later_by script (job.Ticket t) m k e = absurd cc

-- a look that found the job overtaken shows that it may begin anew
pub later_of : (desk : DeskLock) (j : JobSeen) (p : DeskKnown) (k : ℕ) → j.subject ≡ desk.name → Shows j p (looked.Superseded k) → OfPipe j.name (λ q. Later desk.name.script q j.moment p.mark)
later_of desk j p k same s =
    subst (λ n. OfPipe j.name (λ q. Later desk.name.script q j.moment n)) (sym s.2)
    (subst (λ x. OfPipe j.name (λ q. Later x.script q j.moment k)) same (later_by j.subject.script j.name j.moment k s.3))

-- ---- what the turns that end a job or begin it anew gain

pub gained_done : (j : JobSeen) (p : Pipe) (a b : DeskKnown) → j.name ≡ job.Pipe p → j.worker ≡ a.number → Turned worker_of a b (done_entry j.name j.worker j.moment ∷ []) → Turned worker_of a b (entry.Published p a.number j.moment ∷ [])
gained_done j p a b name worker t = subst (λ w. Turned worker_of a b (entry.Published p w j.moment ∷ [])) worker (subst (λ n. Turned worker_of a b (done_entry n j.worker j.moment ∷ [])) name t)

pub gained_back : (j : JobSeen) (p : Pipe) (a b : DeskKnown) → j.name ≡ job.Pipe p → j.worker ≡ a.number → Turned worker_of a b (back_entry j.name j.worker ∷ []) → Turned worker_of a b (entry.GaveBack p a.number ∷ [])
gained_back j p a b name worker t = subst (λ w. Turned worker_of a b (entry.GaveBack p w ∷ [])) worker (subst (λ n. Turned worker_of a b (back_entry n j.worker ∷ [])) name t)

pub gained_anew : (j : JobSeen) (p : Pipe) (a b : DeskKnown) → j.name ≡ job.Pipe p → j.worker ≡ a.number → Turned worker_of a b (anew j.name j.worker j.moment) → Turned worker_of a b (entry.Restarted p a.number j.moment ∷ [])
gained_anew j p a b name worker t = subst (λ w. Turned worker_of a b (entry.Restarted p w j.moment ∷ [])) worker (subst (λ n. Turned worker_of a b (anew n j.worker j.moment)) name t)

pub gained_ticket : (j : JobSeen) (t : ℕ) (a b : DeskKnown) → j.name ≡ job.Ticket t → j.worker ≡ a.number → Turned worker_of a b (done_entry j.name j.worker j.moment ∷ []) → Turned worker_of a b (entry.TicketDone t a.number ∷ [])
gained_ticket j t a b name worker d = subst (λ w. Turned worker_of a b (entry.TicketDone t w ∷ [])) worker (subst (λ n. Turned worker_of a b (done_entry n j.worker j.moment ∷ [])) name d)

pub gained_ticket_back : (j : JobSeen) (t : ℕ) (a b : DeskKnown) → j.name ≡ job.Ticket t → j.worker ≡ a.number → Turned worker_of a b (back_entry j.name j.worker ∷ []) → Turned worker_of a b (entry.TicketBack t a.number ∷ [])
gained_ticket_back j t a b name worker d = subst (λ w. Turned worker_of a b (entry.TicketBack t w ∷ [])) worker (subst (λ n. Turned worker_of a b (back_entry n j.worker ∷ [])) name d)
