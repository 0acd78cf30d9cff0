-- the job that a worker has, read from its own entries alone
use Rattle.std.specs.Prelude.{◌≡◌, ◌↔◌, ℕ, List, [], ◌∷◌, Option, Some, None, ◌==◌}
use Rattle.std.specs.List.{filter}
use Rattle.outside.specs.declared.job_name.JobName.{JobName}
use Rattle.outside.specs.declared.job_name.JobName.TheVariants as job
use Rattle.edit_steps.specs.Script.{Recipe}
use Rattle.journal.specs.declared.entry.Entry.{Entry}
use Rattle.journal.specs.declared.entry.Entry.TheVariants.{Changed, Asked, Settled, Closed, Took, Restarted, Published, GaveBack, TicketTook, TicketDone, TicketBack, Stopped}
use Rattle.journal.specs.declared.desk.TicketState.TheVariants.{Out}
use Rattle.journal.specs.Desk.{Desk, HoldsPipe, IsTicket}
use Rattle.journal.specs.Lines.{Line, pipe_line, ticket_line}
use Rattle.journal.specs.Tickets.{asked_moment}

-- ---- entries of any kind, each with the worker that bears it and what it does to that worker's job

-- what an entry does to the job of its worker
pub data Act : Type 0 where
  Stays : Act
  Takes : Line → Act
  Ends : Act

-- what a worker has after an act of its own
abbrev pub after_act : Option Line → Act → Option Line
after_act before Stays = before
after_act before (Takes l) = Some l
after_act before Ends = None

-- what a worker has after all its own entries
abbrev pub held : {E : Type 0} → (E → Act) → Option Line → List E → Option Line
held act before [] = before
held act before (e ∷ es) = held act (after_act before (act e)) es

-- a worker's own entries
abbrev pub own : {E : Type 0} → (E → ℕ) → ℕ → List E → List E
own bearer n es = filter (λ e. bearer e == n) es

-- the job that a worker has after all entries
abbrev pub job_of : {E : Type 0} → (E → ℕ) → (E → Act) → ℕ → List E → Option Line
job_of bearer act n es = held act None (own bearer n es)

-- ---- those of a desk

-- the worker that an entry is of; the editor's entries are of 0
abbrev pub worker_of : Entry → ℕ
worker_of (Changed m) = 0
worker_of (Asked t m) = 0
worker_of Settled = 0
worker_of Closed = 0
worker_of (Took p w m) = w
worker_of (Restarted p w m) = w
worker_of (Published p w m) = w
worker_of (GaveBack p w) = w
worker_of (TicketTook t w) = w
worker_of (TicketDone t w) = w
worker_of (TicketBack t w) = w
worker_of (Stopped w) = w

-- what an entry does to the job of its worker
abbrev pub act_of : Recipe → Entry → Act
act_of script (Changed m) = Stays
act_of script (Asked t m) = Stays
act_of script Settled = Stays
act_of script Closed = Stays
act_of script (Took p w m) = Takes (pipe_line p m)
act_of script (Restarted p w m) = Takes (pipe_line p m)
act_of script (Published p w m) = Ends
act_of script (GaveBack p w) = Ends
act_of script (TicketTook t w) = Takes (ticket_line script t)
act_of script (TicketDone t w) = Ends
act_of script (TicketBack t w) = Ends
act_of script (Stopped w) = Stays

-- the job that a worker has after a journal
abbrev pub job_at : Recipe → ℕ → List Entry → Option Line
job_at script n es = job_of worker_of (act_of script) n es

-- the worker has the job at that moment
abbrev pub HoldsJob : Recipe → Desk → ℕ → JobName → ℕ → Type 0
HoldsJob script d n (job.Pipe p) m = HoldsPipe d n p m
HoldsJob script d n (job.Ticket t) m = IsTicket d t (Out n) × (m ≡ asked_moment script t)

-- just this is what the worker has
abbrev pub Says : Recipe → Desk → ℕ → Option Line → Type 0
Says script d n has = (name : JobName) (m : ℕ) → HoldsJob script d n name m ↔ (has ≡ Some (record { job = name; moment = m }))
