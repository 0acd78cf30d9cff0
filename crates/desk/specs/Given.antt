-- how a worker comes by its job, begins it anew and ends it
use Rattle.std.specs.Prelude.{◌≡◌, ℕ, true, false, List, [], ◌∷◌, Option, Some, None, Result, Ok, Err}
use Rattle.std.specs.declared.alloc.AllocError.{AllocError}
use Rattle.outside.specs.declared.job_name.JobName.{JobName}
use Rattle.outside.specs.declared.job_name.JobName.TheVariants as job
use Rattle.edit_steps.specs.Script.{Recipe}
use Rattle.journal.specs.declared.entry.Entry.{Entry}
use Rattle.journal.specs.declared.entry.Entry.TheVariants as entry
use Rattle.journal.specs.Tickets.{asked_moment}
use Rattle.journal.specs.Desk.{Desk, due}
use Rattle.dev_core.specs.Subject.{SubjectSeen}
use Rattle.dev_core.specs.Jobs.{JobSeen, took_entry}
use Rattle.desk.specs.declared.next_job.NextJob.{NextJob}
use Rattle.desk.specs.declared.next_job.NextJob.TheVariants as given

-- ---- the job that an answer gives

abbrev pub tried_job : Result (Option JobSeen) AllocError → Option JobSeen
tried_job (Ok o) = o
tried_job (Err e) = None

abbrev pub job_in : NextJob → Option JobSeen
job_in (given.Job j) = Some j
job_in given.Closed = None
job_in given.Stopped = None

abbrev pub next_job : Result NextJob AllocError → Option JobSeen
next_job (Ok n) = job_in n
next_job (Err e) = None

-- that of an answer that may still be open
abbrev pub found_job : Result (Option NextJob) AllocError → Option JobSeen
found_job (Ok None) = None
found_job (Ok (Some n)) = job_in n
found_job (Err e) = None

-- the entry that gives it
abbrev pub taken : Option JobSeen → List Entry
taken None = []
taken (Some j) = took_entry j.name j.worker j.moment ∷ []

-- the moment of a job that is given at a moment: a ticket's is the one at which it was asked
abbrev pub given_moment : Recipe → ℕ → JobName → ℕ
given_moment script m (job.Pipe p) = m
given_moment script m (job.Ticket t) = asked_moment script t

-- a job of this subject, given to this worker at this moment
pub record IsGivenAt (s : SubjectSeen) (w m : ℕ) (j : JobSeen) : Type 0 where
  pub subject_is : j.subject ≡ s
  pub worker_is : j.worker ≡ w
  pub moment_is : j.moment ≡ given_moment s.script m j.name

-- ---- the cause of each answer

abbrev pub name_in : Option JobSeen → Option JobName
name_in None = None
name_in (Some j) = Some j.name

-- a worker is given what is due, unless the desk was stopped; it is told that the desk is closed where nothing is due
abbrev pub IsNext : Recipe → NextJob → Desk → Type 0
IsNext script (given.Job j) d = (d.stopped ≡ false) × (due script d ≡ Some j.name)
IsNext script given.Closed d = (d.stopped ≡ false) × (due script d ≡ None) × (d.closed ≡ true)
IsNext script given.Stopped d = d.stopped ≡ true

-- with no answer yet, a worker has to wait: nothing is due, and neither is the desk closed nor was it stopped
abbrev pub IsPolled : Recipe → Option NextJob → Desk → Type 0
IsPolled script None d = (d.stopped ≡ false) × (due script d ≡ None) × (d.closed ≡ false)
IsPolled script (Some n) d = IsNext script n d

-- ---- beginning anew

-- the entry of a pipe's job that begins anew
abbrev pub anew : JobName → ℕ → ℕ → List Entry
anew (job.Pipe p) w m = entry.Restarted p w m ∷ []
anew (job.Ticket t) w m = []

-- none where memory ran out
abbrev pub restart_adds : JobSeen → Result (Unit {0}) AllocError → List Entry
restart_adds j (Ok u) = anew j.name j.worker j.moment
restart_adds j (Err e) = []
