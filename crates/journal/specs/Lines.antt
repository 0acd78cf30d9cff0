-- the lines of a journal: what was made, of which moment
use Rattle.std.specs.Prelude.{ℕ, List, [], ◌∷◌, ◌++◌}
use Rattle.outside.specs.declared.job_name.JobName.{JobName}
use Rattle.outside.specs.declared.job_name.JobName.TheVariants as job
use Rattle.outside.specs.declared.job_name.Pipe.{Pipe}
use Rattle.edit_steps.specs.Script.{Recipe}
use Rattle.journal.specs.declared.entry.Entry.{Entry}
use Rattle.journal.specs.declared.entry.Entry.TheVariants.{Changed, Asked, Settled, Closed, Took, Restarted, Published, GaveBack, TicketTook, TicketDone, TicketBack, Stopped}
use Rattle.journal.specs.Tickets.{asked_moment}

-- a line of the manifest: a pipe at a moment, or a ticket at the moment at which it was asked
pub record Line : Type 0 where
  pub job : JobName
  pub moment : ℕ

abbrev pub pipe_line : Pipe → ℕ → Line
pipe_line p m = record { job = job.Pipe p; moment = m }

abbrev pub ticket_line : Recipe → ℕ → Line
ticket_line script t = record { job = job.Ticket t; moment = asked_moment script t }

abbrev pub line_of : Recipe → Entry → List Line
line_of script (Changed m) = []
line_of script (Asked t m) = []
line_of script Settled = []
line_of script Closed = []
line_of script (Took p w m) = []
line_of script (Restarted p w m) = []
line_of script (Published p w m) = pipe_line p m ∷ []
line_of script (GaveBack p w) = []
line_of script (TicketTook t w) = []
line_of script (TicketDone t w) = ticket_line script t ∷ []
line_of script (TicketBack t w) = []
line_of script (Stopped w) = []

-- one line for each job that was done, in the journal's order
abbrev pub lines : Recipe → List Entry → List Line
lines script [] = []
lines script (e ∷ es) = line_of script e ++ lines script es
