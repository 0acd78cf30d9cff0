-- the desk as a fold over its journal, and where an entry may stand
use Rattle.std.specs.Prelude.{◌≡◌, ℕ, ◌+◌, ◌<◌, ◌≤◌, ◌==◌, IsTrue, Bool, true, false, not, ◌&&◌, ◌||◌, if◌then◌else◌, List, [], ◌∷◌, ◌++◌, length, map, slice_get, slice_set, slice_index_or, Option, Some, None, is_none, option_map}
use Rattle.std.specs.List.{list_all}
use Rattle.std.specs.Option.{option_map_or, option_or}
use Rattle.outside.specs.declared.job_name.JobName.{JobName}
use Rattle.outside.specs.declared.job_name.JobName.TheVariants as job
use Rattle.outside.specs.declared.job_name.Pipe.{Pipe}
use Rattle.edit_steps.specs.declared.step.Step.{Step}
use Rattle.edit_steps.specs.Changes.{is_change}
use Rattle.edit_steps.specs.Pipes.{has_pipe}
use Rattle.edit_steps.specs.Script.{Recipe, concerns_between}
use Rattle.journal.specs.declared.desk.Hold.{Hold}
use Rattle.journal.specs.declared.desk.Slot.{Slot}
use Rattle.journal.specs.declared.desk.TicketState.{TicketState}
use Rattle.journal.specs.declared.desk.TicketState.TheVariants.{Waiting, Out, Done}
use Rattle.journal.specs.declared.entry.Entry.{Entry}
use Rattle.journal.specs.declared.entry.Entry.TheVariants.{Changed, Asked, Settled, Closed, Took, Restarted, Published, GaveBack, TicketTook, TicketDone, TicketBack, Stopped}
use Rattle.journal.specs.declared.entry.NextStep.{NextStep}
use Rattle.journal.specs.declared.entry.NextStep.TheVariants as next_is
use Rattle.journal.specs.Pipes.{pipes, place_of}
use Rattle.journal.specs.Tickets.{is_ask, is_settle, numbered, with_numbered}

-- ---- the state

-- How many steps were made, the moment, whether the editor has closed and whether the desk was stopped, each pipe at its
-- place, and each ticket by its number.
pub record Desk : Type 0 where
  pub steps : ℕ
  pub moment : ℕ
  pub closed : Bool
  pub stopped : Bool
  pub slots : List Slot
  pub tickets : List TicketState

-- a worker has the pipe, at a moment
abbrev pub held_by : ℕ → ℕ → Option Hold
held_by w m = Some (record { worker = w; moment = m })

abbrev pub slot_with : Option Hold → Option ℕ → Slot
slot_with hold published = record { hold = hold; published = published }

abbrev pub no_slot : Slot
no_slot = slot_with None None

abbrev pub slot : Desk → Pipe → Slot
slot d p = slice_index_or d.slots (place_of p) no_slot

abbrev pub with_slot : Desk → Pipe → Slot → Desk
with_slot d p x = record d { slots = slice_set d.slots (place_of p) x }

abbrev pub with_ticket : Desk → ℕ → TicketState → Desk
with_ticket d t x = record d { tickets = with_numbered d.tickets t x }

-- the desk before the first entry
abbrev pub start : Desk
start = record { steps = 0; moment = 0; closed = false; stopped = false; slots = map (λ p. no_slot) pipes; tickets = [] }

-- the desk after one more entry
abbrev pub next : Desk → Entry → Desk
next d (Changed m) = record d { steps = d.steps + 1; moment = m }
next d (Asked t m) = record d { steps = d.steps + 1; tickets = d.tickets ++ Waiting ∷ [] }
next d Settled = record d { steps = d.steps + 1 }
next d Closed = record d { closed = true }
next d (Took p w m) = with_slot d p (slot_with (held_by w m) (slot d p).published)
next d (Restarted p w m) = with_slot d p (slot_with (held_by w m) (slot d p).published)
next d (Published p w m) = with_slot d p (slot_with None (Some m))
next d (GaveBack p w) = with_slot d p (slot_with None (slot d p).published)
next d (TicketTook t w) = with_ticket d t (Out w)
next d (TicketDone t w) = with_ticket d t Done
next d (TicketBack t w) = with_ticket d t Waiting
next d (Stopped w) = record d { stopped = true }

-- the entry can be noted without memory: its step has a number, and its ticket was asked
abbrev pub CanNote : Desk → Entry → Type 0
CanNote d (Changed m) = d.steps + 1 < 4294967296
CanNote d (Asked t m) = ⊥
CanNote d Settled = d.steps + 1 < 4294967296
CanNote d (TicketTook t w) = t ≤ length d.tickets
CanNote d (TicketDone t w) = t ≤ length d.tickets
CanNote d (TicketBack t w) = t ≤ length d.tickets
CanNote d _ = Unit {0}

abbrev pub desk_of : Desk → List Entry → Desk
desk_of d [] = d
desk_of d (e ∷ es) = desk_of (next d e) es

-- ---- what is asked of it

-- one of the changes after the first a, and among the first b, concerns the pipe
abbrev pub Later : Recipe → Pipe → ℕ → ℕ → Type 0
Later script p a b = IsTrue (concerns_between script p a b)

-- no job of the pipe is out
abbrev pub is_free : Desk → Pipe → Bool
is_free d p = is_none (slot d p).hold

-- the pipe was published, and no change after that moment concerns it
abbrev pub is_up_to_date : Recipe → Desk → Pipe → Bool
is_up_to_date script d p = option_map_or (λ m. not (concerns_between script p m d.moment)) (slot d p).published false

-- the subject has the pipe, which is free and not up to date
abbrev pub is_due : Recipe → Desk → Pipe → Bool
is_due script d p = has_pipe script.settings p && (is_free d p && not (is_up_to_date script d p))

-- the pipe is up to date and free, where the subject has it
abbrev pub is_at_rest : Recipe → Desk → Pipe → Bool
is_at_rest script d p = not (has_pipe script.settings p) || (is_up_to_date script d p && is_free d p)

abbrev pub is_waiting : TicketState → Bool
is_waiting Waiting = true
is_waiting (Out w) = false
is_waiting Done = false

abbrev pub is_done : TicketState → Bool
is_done Waiting = false
is_done (Out w) = false
is_done Done = true

-- each pipe of the subject is up to date and free, and each ticket that was asked is done
abbrev pub is_settled : Recipe → Desk → Bool
is_settled script d = list_all (is_at_rest script d) pipes && list_all is_done d.tickets

-- every step is done, the desk is closed and settled
abbrev pub is_complete : Recipe → Desk → Bool
is_complete script d = d.closed && ((d.steps == length script.steps) && is_settled script d)

-- the job may be taken: its pipe is due, or its ticket was asked and waits
abbrev pub is_due_job : Recipe → Desk → JobName → Bool
is_due_job script d (job.Pipe p) = is_due script d p
is_due_job script d (job.Ticket t) = option_map_or is_waiting (numbered d.tickets t) false

-- the first of the pipes that is due
abbrev pub first_due : Recipe → Desk → List Pipe → Option Pipe
first_due script d [] = None
first_due script d (p ∷ ps) = if is_due script d p then Some p else first_due script d ps

-- the least ticket that waits, the first of them having number n
abbrev pub first_waiting : ℕ → List TicketState → Option ℕ
first_waiting n [] = None
first_waiting n (t ∷ ts) = if is_waiting t then Some n else first_waiting (n + 1) ts

-- what a worker takes next: the first pipe that is due, or else the least ticket that waits
abbrev pub due : Recipe → Desk → Option JobName
due script d = option_or (option_map job.Pipe (first_due script d pipes)) (option_map job.Ticket (first_waiting 1 d.tickets))

-- what the editor does next. Steps are counted from 1
abbrev pub next_step : Recipe → Desk → NextStep
next_step script d = if d.closed then next_is.Closed else (if d.steps == length script.steps then next_is.Close else next_is.Step (d.steps + 1))

-- ---- where an entry may stand

-- the worker has the pipe, at that moment
abbrev pub HoldsPipe : Desk → ℕ → Pipe → ℕ → Type 0
HoldsPipe d w p m = (slot d p).hold ≡ held_by w m

abbrev pub IsTicket : Desk → ℕ → TicketState → Type 0
IsTicket d t state = numbered d.tickets t ≡ Some state

-- the worker has no job
pub record IsIdle (d : Desk) (w : ℕ) : Type 0 where
  pub pipes_free : (p : Pipe) (m : ℕ) → HoldsPipe d w p m → ⊥
  pub tickets_free : (t : ℕ) → IsTicket d t (Out w) → ⊥

-- the script's next step is of this sort
pub record NextIs (sort : Step → Bool) (script : Recipe) (d : Desk) : Type 0 where
  pub step : Step
  pub stands : slice_get script.steps d.steps ≡ Some step
  pub is_sort : sort step ≡ true

-- the worker has the pipe at that moment, and a change after it concerns the pipe
abbrev pub IsSuperseded : Recipe → Desk → Pipe → ℕ → ℕ → Type 0
IsSuperseded script d p w m = HoldsPipe d w p m × Later script p m d.moment

abbrev pub May : Recipe → Desk → Entry → Type 0
May script d (Changed m) = NextIs is_change script d × (m ≡ d.moment + 1)
May script d (Asked t m) = NextIs is_ask script d × (t ≡ length d.tickets + 1) × (m ≡ d.moment)
May script d Settled = NextIs is_settle script d × IsTrue (is_settled script d)
May script d Closed = (d.steps ≡ length script.steps) × (d.closed ≡ false)
May script d (Took p w m) = IsTrue (is_due script d p) × IsIdle d w × (m ≡ d.moment)
May script d (Restarted p w m) = (h : ℕ) × IsSuperseded script d p w h × (m ≡ d.moment)
May script d (Published p w m) = HoldsPipe d w p m
May script d (GaveBack p w) = (h : ℕ) × HoldsPipe d w p h
May script d (TicketTook t w) = IsTicket d t Waiting × IsIdle d w
May script d (TicketDone t w) = IsTicket d t (Out w)
May script d (TicketBack t w) = IsTicket d t (Out w)
May script d (Stopped w) = d.stopped ≡ false

abbrev pub LegalFrom : Recipe → Desk → List Entry → Type 0
LegalFrom script d [] = Unit {0}
LegalFrom script d (e ∷ es) = May script d e × LegalFrom script (next d e) es

-- each entry stands where it may, after those before it
abbrev pub Legal : Recipe → List Entry → Type 0
Legal script es = LegalFrom script start es

-- each is one, and what was asked is done
abbrev pub IsComplete : Recipe → List Entry → Type 0
IsComplete script es = IsTrue (is_complete script (desk_of start es))
