-- the names of the files that a session puts
use Rattle.std.specs.Prelude.{ℕ, IsTrue, is_some, List, [], ◌++◌, codes, Option, Some, None}
use Rattle.std.specs.Fmt.{decimal}
use Rattle.std.specs.Option.{option_map_or}
use Rattle.outside.specs.declared.job_name.JobName.{JobName}
use Rattle.outside.specs.declared.job_name.JobName.TheVariants as job
use Rattle.outside.specs.declared.job_name.Pipe.{Pipe}
use Rattle.edit_steps.specs.declared.step.Step.{Step}
use Rattle.edit_steps.specs.declared.step.Step.TheVariants as steps
use Rattle.edit_steps.specs.Script.{Recipe}
use Rattle.journal.specs.declared.entry.Entry.{Entry}
use Rattle.journal.specs.declared.entry.Entry.TheVariants.{Changed, Asked, Settled, Closed, Took, Restarted, Published, GaveBack, TicketTook, TicketDone, TicketBack, Stopped}
use Rattle.journal.specs.Pipes.{word_of}
use Rattle.journal.specs.Tickets.{ask_of}

-- the file of a pipe's picture at a moment
abbrev pub pipe_file : Pipe → ℕ → List ℕ
pipe_file p m = word_of p ++ (codes "-" ++ (decimal m ++ codes ".ppm"))

-- the word of a step that asks for a picture
abbrev pub ask_word : Step → List ℕ
ask_word (steps.Export size depth) = codes "export"
ask_word (steps.Thumbnail size) = codes "thumbnail"
ask_word _ = []

-- the word of what a ticket asks for
abbrev pub ticket_word : Recipe → ℕ → List ℕ
ticket_word script t = option_map_or (λ a. ask_word a.step) (ask_of script t) []

-- the file of a ticket's picture
abbrev pub ticket_file : Recipe → ℕ → List ℕ
ticket_file script t = ticket_word script t ++ (codes "-" ++ (decimal t ++ codes ".ppm"))

-- the file of a job's picture at a moment
abbrev pub job_file : Recipe → JobName → ℕ → List ℕ
job_file script (job.Pipe p) m = pipe_file p m
job_file script (job.Ticket t) m = ticket_file script t

abbrev pub manifest_file : List ℕ
manifest_file = codes "manifest.txt"

-- the file of an entry: just a published pipe and a ticket that is done have one
abbrev pub name_of : Recipe → Entry → Option (List ℕ)
name_of script (Changed m) = None
name_of script (Asked t m) = None
name_of script Settled = None
name_of script Closed = None
name_of script (Took p w m) = None
name_of script (Restarted p w m) = None
name_of script (Published p w m) = Some (pipe_file p m)
name_of script (GaveBack p w) = None
name_of script (TicketTook t w) = None
name_of script (TicketDone t w) = Some (ticket_file script t)
name_of script (TicketBack t w) = None
name_of script (Stopped w) = None

-- the script has this ticket
abbrev pub HasTicket : Recipe → ℕ → Type 0
HasTicket script t = IsTrue (is_some (ask_of script t))

-- the job is a pipe's, or that of a ticket of the script
abbrev pub HasJob : Recipe → JobName → Type 0
HasJob script (job.Pipe p) = Unit {0}
HasJob script (job.Ticket t) = HasTicket script t

-- a ticket that is done is one of the script's
abbrev pub HasDone : Recipe → Entry → Type 0
HasDone script (TicketDone t w) = HasTicket script t
HasDone script _ = Unit {0}
