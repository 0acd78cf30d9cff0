-- what a desk's state is seen as, and what it keeps
use Rattle.std.specs.Prelude.{◌≡◌, ℕ, ◌+◌, ◌≤◌, Bool, true, false, if◌then◌else◌, List, [], ◌∷◌, ◌++◌, length, take, Option, Some, None, sum_by, Result, Ok, Err}
use Rattle.std.specs.declared.alloc.AllocError.{AllocError}
use Rattle.edit_steps.specs.Changes.{Histories}
use Rattle.edit_steps.specs.Script.{Recipe, changes, behind, moment_of}
use Rattle.journal.specs.declared.desk.Hold.{Hold}
use Rattle.journal.specs.declared.desk.Slot.{Slot}
use Rattle.journal.specs.declared.desk.TicketState.{TicketState}
use Rattle.journal.specs.declared.desk.TicketState.TheVariants.{Waiting, Out, Done}
use Rattle.journal.specs.declared.entry.Entry.{Entry}
use Rattle.journal.specs.Desk.{Desk, start, desk_of, Legal, due}
use Rattle.journal.specs.Tickets.{asks_from}
use Rattle.dev_core.specs.declared.next.Next.{Next}
use Rattle.dev_core.specs.declared.next.Next.TheVariants as given
use Rattle.dev_core.specs.Jobs.{FrameSeen, JobSeen, IsMomentOf, took_entry}
use Rattle.dev_core.specs.Lines.{frames_of}
use Rattle.dev_core.specs.Room.{Roomed}
use Rattle.dev_core.specs.Subject.{SubjectSeen}

pub record DeskSeen : Type 0 where
  pub subject : SubjectSeen
  pub journal : List Entry

-- the desk after all entries
abbrev pub now : DeskSeen → Desk
now s = desk_of start s.journal

abbrev pub with_entry : DeskSeen → Entry → DeskSeen
with_entry s e = record { subject = s.subject; journal = s.journal ++ e ∷ [] }

-- ---- room

-- how many jobs are out
abbrev pub one_out : Option Hold → ℕ
one_out None = 0
one_out (Some h) = 1

abbrev pub slot_out : Slot → ℕ
slot_out s = one_out s.hold

abbrev pub ticket_out : TicketState → ℕ
ticket_out Waiting = 0
ticket_out (Out w) = 1
ticket_out Done = 0

abbrev pub jobs_out : Desk → ℕ
jobs_out d = sum_by slot_out d.slots + sum_by ticket_out d.tickets

-- the entries that must find room: one for the end of each job that is out, one for the close and one for the stop
abbrev pub owed : Desk → ℕ
owed d = jobs_out d + ((if d.closed then 0 else 1) + (if d.stopped then 0 else 1))

-- ---- what a desk keeps

-- Steps and moments of the desk are those of the script, and the histories are those behind the steps that were made.
pub record Stands (s : SubjectSeen) (count : ℕ) (d : Desk) (hs : Histories) : Type 0 where
  pub all : count ≡ length s.script.steps
  pub few : count ≤ 536
  pub steps : d.steps ≤ count
  pub moment : d.moment ≡ moment_of s.script d.steps
  pub within : d.moment ≤ changes s.script
  pub tickets : length d.tickets ≡ length (asks_from 0 (take d.steps s.script.steps))
  pub few_tickets : length d.tickets ≤ d.steps
  pub slots : length d.slots ≡ 3
  pub present : hs ≡ behind s.script d.steps

-- the journal is legal, its fold is kept beside it, each line has its frame, and there is room for what ends a job
pub record Keeps (s : SubjectSeen) (count : ℕ) (journal : Roomed Entry) (frames : Roomed FrameSeen) (d : Desk) (hs : Histories) : Type 0 where
  pub legal : Legal s.script journal.items
  pub desk : d ≡ desk_of start journal.items
  pub stands : Stands s count d hs
  pub shows : frames.items ≡ frames_of s journal.items
  pub room : owed d ≤ journal.room
  pub frame_room : jobs_out d ≤ frames.room

-- ---- answers

-- what a worker without a job is given
pub record IsGiven (old : DeskSeen) (w : ℕ) (new : DeskSeen) (j : JobSeen) : Type 0 where
  pub due_is : due old.subject.script (now old) ≡ Some j.name
  pub subject_is : j.subject ≡ old.subject
  pub worker_is : j.worker ≡ w
  pub new_is : new ≡ with_entry old (took_entry j.name w (now old).moment)

-- each answer to a worker without a job, with its cause
abbrev pub Gives : DeskSeen → ℕ → DeskSeen → Result Next AllocError → Type 0
Gives old w new (Ok given.Stopped) = ((now old).stopped ≡ true) × (new ≡ old)
Gives old w new (Ok (given.Job j)) = ((now old).stopped ≡ false) × IsGiven old w new j
Gives old w new (Ok given.Closed) = ((now old).stopped ≡ false) × (due old.subject.script (now old) ≡ None) × ((now old).closed ≡ true) × (new ≡ old)
Gives old w new (Ok given.Nothing) = ((now old).stopped ≡ false) × (due old.subject.script (now old) ≡ None) × ((now old).closed ≡ false) × (new ≡ old)
Gives old w new (Err e) = new ≡ old
