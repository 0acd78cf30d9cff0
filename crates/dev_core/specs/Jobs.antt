-- jobs and their frames
use Rattle.std.specs.Prelude.{◌≡◌, ◌≤◌, ℕ, length}
use Rattle.outside.specs.declared.job_name.JobName.{JobName}
use Rattle.outside.specs.declared.job_name.JobName.TheVariants as job
use Rattle.outside.specs.declared.job_name.Pipe.{Pipe}
use Rattle.history.specs.Stack.{Stack}
use Rattle.edit_steps.specs.Script.{Recipe, changes, history_at}
use Rattle.journal.specs.declared.entry.Entry.{Entry}
use Rattle.journal.specs.declared.entry.Entry.TheVariants as entry
use Rattle.journal.specs.Tickets.{asked_moment}
use Rattle.pipe_nodes.specs.declared.show.Show.{Show}
use Rattle.pipe_nodes.specs.Actives.{actives_of}
use Rattle.pipe_nodes.specs.Windows.{CanShow}
use Rattle.dev_core.specs.Subject.{SubjectSeen, show_of}

-- what a job makes of its subject, which worker has it, and the moment that it shows
pub record JobSeen : Type 0 where
  pub subject : SubjectSeen
  pub name : JobName
  pub worker : ℕ
  pub moment : ℕ

-- what a frame is of. Its bytes follow: they are what the job shows at the moment
pub record FrameSeen : Type 0 where
  pub subject : SubjectSeen
  pub name : JobName
  pub moment : ℕ

abbrev pub job_seen : SubjectSeen → JobName → ℕ → ℕ → JobSeen
job_seen s name w m = record { subject = s; name = name; worker = w; moment = m }

-- the frame that a job makes
abbrev pub frame_of : JobSeen → FrameSeen
frame_of j = record { subject = j.subject; name = j.name; moment = j.moment }

-- a pipe's job may show any moment; a ticket's shows the one at which it was asked
abbrev pub IsMomentOf : Recipe → JobName → ℕ → Type 0
IsMomentOf script (job.Pipe p) m = Unit {0}
IsMomentOf script (job.Ticket t) m = m ≡ asked_moment script t

-- the moment is one of the script's, with the history that stands at it and the number of what is active in that
pub record StandsAt (script : Recipe) (m : ℕ) (h : Stack) (actives : ℕ) : Type 0 where
  pub moment : m ≤ changes script
  pub history : h ≡ history_at script m
  pub count : actives ≡ length (actives_of (history_at script m))
  pub few : actives ≤ 64

-- the show can be shown
pub record CanBeShown (show : Show) : Type 0 where
  pub level : show.level ≤ 8
  pub window : CanShow show.window

-- the job is of its name's moment, and shows what that name shows at it
pub record IsJob (s : SubjectSeen) (name : JobName) (m : ℕ) (h : Stack) (actives : ℕ) (show : Show) : Type 0 where
  pub stands : StandsAt s.script m h actives
  pub asked : IsMomentOf s.script name m
  pub shows : show ≡ show_of s name m
  pub can_show : CanBeShown show

-- it is the job of a pipe, of which this holds
abbrev pub OfPipe : JobName → (Pipe → Type 0) → Type 0
OfPipe (job.Pipe p) P = P p
OfPipe (job.Ticket t) P = ⊥

-- it is the job of a ticket
abbrev pub IsTicketJob : JobName → Type 0
IsTicketJob (job.Pipe p) = ⊥
IsTicketJob (job.Ticket t) = Unit {0}

-- the entry that takes a job
abbrev pub took_entry : JobName → ℕ → ℕ → Entry
took_entry (job.Pipe p) w m = entry.Took p w m
took_entry (job.Ticket t) w m = entry.TicketTook t w

-- the entry that a finished job leaves
abbrev pub done_entry : JobName → ℕ → ℕ → Entry
done_entry (job.Pipe p) w m = entry.Published p w m
done_entry (job.Ticket t) w m = entry.TicketDone t w

-- the entry that a job leaves which is given back
abbrev pub back_entry : JobName → ℕ → Entry
back_entry (job.Pipe p) w = entry.GaveBack p w
back_entry (job.Ticket t) w = entry.TicketBack t w
