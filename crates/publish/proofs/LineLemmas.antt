-- the lines of a journal and the entries that have one
use Rattle.std.proofs.Common.{◌≡◌, ℕ, List, [], ◌∷◌, ◌++◌, length, refl, sym, cond, ◌+◌, arith, true, Option, Some, None}
use Rattle.std.specs.Prelude.{count_by, is_some, option_map}
use Rattle.std.specs.List.{All}
use Rattle.std.proofs.lemmas.List.Elements.{All-nil, All-cons, All-head, All-tail, All-weaker}
use Rattle.std.proofs.lemmas.List.Recursion.{is_count_by}
use Rattle.outside.specs.declared.job_name.JobName.{JobName}
use Rattle.outside.specs.declared.job_name.JobName.TheVariants as job
use Rattle.edit_steps.specs.Script.{Recipe}
use Rattle.journal.specs.declared.asking.Ask.{Ask}
use Rattle.journal.specs.declared.entry.Entry.{Entry}
use Rattle.journal.specs.declared.entry.Entry.TheVariants.{Changed, Asked, Settled, Closed, Took, Restarted, Published, GaveBack, TicketTook, TicketDone, TicketBack, Stopped}
use Rattle.journal.specs.Tickets.{ask_of, asked_moment}
use Rattle.journal.specs.Desk.{Legal}
use Rattle.journal.specs.Lines.{Line, pipe_line, ticket_line, line_of, lines}
use Rattle.journal.specs.Good.{IsKnown, IsKnownJob}
use Rattle.journal.proofs.GoodLemmas.{lines_known}
use Rattle.publish.specs.Count.{has_line}
use Rattle.publish.specs.Names.{HasJob, HasDone}

lines_more : (script : Recipe) (e : Entry) (es : List Entry) → length (lines script (e ∷ es)) ≡ cond (has_line e) (1 + length (lines script es)) (length (lines script es))
lines_more script (Changed m) es = refl
lines_more script (Asked t m) es = refl
lines_more script Settled es = refl
lines_more script Closed es = refl
lines_more script (Took p w m) es = refl
lines_more script (Restarted p w m) es = refl
lines_more script (Published p w m) es = omega arith
lines_more script (GaveBack p w) es = refl
lines_more script (TicketTook t w) es = refl
lines_more script (TicketDone t w) es = omega arith
lines_more script (TicketBack t w) es = refl
lines_more script (Stopped w) es = refl

pub count_is_length : (script : Recipe) (es : List Entry) → count_by has_line es ≡ length (lines script es)
count_is_length script es = sym (is_count_by (λ xs. length (lines script xs)) has_line refl (lines_more script) es)

-- ---- tickets of a legal journal

some_from_map : (o : Option Ask) (m : ℕ) → option_map (λ (a : Ask). a.moment) o ≡ Some m → is_some o ≡ true
some_from_map None m e = cc
some_from_map (Some a) m e = refl

known_done : (script : Recipe) (es : List Entry) → All (IsKnown script) (lines script es) → All (HasDone script) es
known_done script [] known = All-nil (HasDone script)
known_done script (e ∷ es) known = All-cons (HasDone script) e es (here e known) (known_done script es (later e known))
  where
    here : (f : Entry) → All (IsKnown script) (line_of script f ++ lines script es) → HasDone script f
    here (Changed m) all = tt
    here (Asked t m) all = tt
    here Settled all = tt
    here Closed all = tt
    here (Took p w m) all = tt
    here (Restarted p w m) all = tt
    here (Published p w m) all = tt
    here (GaveBack p w) all = tt
    here (TicketTook t w) all = tt
    here (TicketDone t w) all = some_from_map (ask_of script t) (asked_moment script t) (All-head (IsKnown script) (ticket_line script t) (lines script es) all)
    here (TicketBack t w) all = tt
    here (Stopped w) all = tt

    later : (f : Entry) → All (IsKnown script) (line_of script f ++ lines script es) → All (IsKnown script) (lines script es)
    later (Changed m) all = all
    later (Asked t m) all = all
    later Settled all = all
    later Closed all = all
    later (Took p w m) all = all
    later (Restarted p w m) all = all
    later (Published p w m) all = All-tail (IsKnown script) (pipe_line p m) (lines script es) all
    later (GaveBack p w) all = all
    later (TicketTook t w) all = all
    later (TicketDone t w) all = All-tail (IsKnown script) (ticket_line script t) (lines script es) all
    later (TicketBack t w) all = all
    later (Stopped w) all = all

-- each ticket that is done in a legal journal is one of the script's
pub legal_done : (script : Recipe) (es : List Entry) → Legal script es → All (HasDone script) es
legal_done script es legal = known_done script es (lines_known script es legal)

-- each line of a legal journal is of a pipe or of a ticket of the script
pub legal_jobs : (script : Recipe) (es : List Entry) → Legal script es → All (λ (l : Line). HasJob script l.job) (lines script es)
legal_jobs script es legal = All-weaker (IsKnown script) (λ (l : Line). HasJob script l.job) (λ l is. each l.job l.moment is) (lines script es) (lines_known script es legal)
  where
    each : (name : JobName) (m : ℕ) → IsKnownJob script name m → HasJob script name
    each (job.Pipe p) m is = tt
    each (job.Ticket t) m is = some_from_map (ask_of script t) m is
