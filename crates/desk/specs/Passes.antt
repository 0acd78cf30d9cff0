-- the passes of a desk, and the job that one holds
use Rattle.std.specs.Prelude.{◌≡◌, List, Option, Some, None}
use Rattle.edit_steps.specs.Script.{Recipe}
use Rattle.journal.specs.declared.entry.Entry.{Entry}
use Rattle.journal.specs.Lines.{Line}
use Rattle.journal.specs.Own.{held, act_of}
use Rattle.turn_lock.specs.Known.{Named, Known}
use Rattle.dev_core.specs.Subject.{SubjectSeen}
use Rattle.dev_core.specs.Jobs.{JobSeen}

-- a desk that is shared: its lock, which bears the name of its subject
abbrev pub DeskLock : Type 0
DeskLock = Named SubjectSeen

-- what a pass knows of its desk
abbrev pub DeskKnown : Type 0
DeskKnown = Known SubjectSeen Entry

-- the job that a worker holds after these entries of its own
abbrev pub holding : Recipe → List Entry → Option Line
holding script own = held (act_of script) None own

-- what a job is of
abbrev pub line_of_job : JobSeen → Line
line_of_job j = record { job = j.name; moment = j.moment }

-- The pass holds the job: it is of the desk's subject and of the pass's worker, and the last of the pass's own entries that is
-- of a job took it, or began it anew, at its moment.
pub record HasJob (desk : DeskLock) (p : DeskKnown) (j : JobSeen) : Type 0 where
  pub subject_is : j.subject ≡ desk.name
  pub worker_is : j.worker ≡ p.number
  pub last : holding desk.name.script p.own ≡ Some (line_of_job j)

-- the pass holds no job
abbrev pub HasNoJob : DeskLock → DeskKnown → Type 0
HasNoJob desk p = holding desk.name.script p.own ≡ None

-- just this is the job that the pass holds, where there is one
abbrev pub HasJust : DeskLock → DeskKnown → Option JobSeen → Type 0
HasJust desk p None = HasNoJob desk p
HasJust desk p (Some j) = HasJob desk p j
