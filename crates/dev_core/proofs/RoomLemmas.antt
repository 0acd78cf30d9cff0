-- how many jobs are out, and how many entries are owed
use Rattle.std.proofs.Common.{◌≡◌, ℕ, zero, suc, ◌+◌, ◌<◌, ◌≤◌, Bool, true, false, cond, List, [], ◌∷◌, ◌++◌, length, refl, sym, ap, ◌∙◌, arith, length-append, Option, Some, None, get_or, sum_by}
use Rattle.std.proofs.lemmas.List.{length-set}
use Rattle.std.proofs.lemmas.List.Sums.{sum_by-cons, sum_by-set, sum_by-append}
use Rattle.std.proofs.lemmas.Option.{slice_get_within, get_or_from_slice_get}
use Rattle.outside.specs.declared.job_name.JobName.{JobName}
use Rattle.outside.specs.declared.job_name.JobName.TheVariants as job
use Rattle.outside.specs.declared.job_name.Pipe.{Pipe}
use Rattle.edit_steps.specs.Script.{Recipe}
use Rattle.journal.specs.declared.desk.Hold.{Hold}
use Rattle.journal.specs.declared.desk.Slot.{Slot}
use Rattle.journal.specs.declared.desk.TicketState.{TicketState}
use Rattle.journal.specs.declared.desk.TicketState.TheVariants.{Waiting, Out, Done}
use Rattle.journal.specs.declared.entry.Entry.{Entry}
use Rattle.journal.specs.declared.entry.Entry.TheVariants.{Changed, Asked, Settled, Closed, Took, Restarted, Published, GaveBack, TicketTook, TicketDone, TicketBack, Stopped}
use Rattle.journal.specs.Pipes.{place_of}
use Rattle.journal.specs.Tickets.{with_numbered}
use Rattle.journal.specs.Desk.{Desk, next, slot, with_slot, with_ticket, slot_with, no_slot, held_by, May, HoldsPipe, IsTicket}
use Rattle.journal.proofs.SlotLemmas.{place-small, slot_same}
use Rattle.dev_core.specs.Jobs.{done_entry, back_entry}
use Rattle.dev_core.specs.DeskState.{one_out, slot_out, ticket_out, jobs_out, owed}

sum_small : {X : Type 0} → (f : X → ℕ) → ((x : X) → f x ≤ 1) → (xs : List X) → sum_by f xs ≤ length xs
sum_small f one [] = omega arith
sum_small f one (x ∷ xs) = omega (arith, one x, sum_small f one xs, sum_by-cons f x xs)

one_small : (h : Option Hold) → one_out h ≤ 1
one_small None = omega arith
one_small (Some h) = omega arith

ticket_small : (t : TicketState) → ticket_out t ≤ 1
ticket_small Waiting = omega arith
ticket_small (Out w) = omega arith
ticket_small Done = omega arith

bit_small : (b : Bool) → cond b 0 1 ≤ 1
bit_small true = omega arith
bit_small false = omega arith

pub jobs_small : (d : Desk) → length d.slots ≡ 3 → jobs_out d ≤ length d.tickets + 3
jobs_small d three = omega (arith, sum_small slot_out (λ s. one_small s.hold) d.slots, sum_small ticket_out ticket_small d.tickets, three)

pub owed_small : (d : Desk) → length d.slots ≡ 3 → owed d ≤ length d.tickets + 5
owed_small d three = omega (arith, jobs_small d three, bit_small d.closed, bit_small d.stopped)

-- ---- one slot, or one ticket, changes

out_slot : (d : Desk) (p : Pipe) (x : Slot) → length d.slots ≡ 3 → jobs_out (with_slot d p x) + slot_out (slot d p) ≡ jobs_out d + slot_out x
out_slot d p x three = omega (arith, sum_by-set slot_out d.slots (place_of p) x no_slot (omega (arith, place-small p, three)))

out_ticket : (d : Desk) (t : ℕ) (x y : TicketState) → IsTicket d t y → jobs_out (with_ticket d t x) + ticket_out y ≡ jobs_out d + ticket_out x
out_ticket d zero x y is = absurd cc
out_ticket d (suc k) x y is =
    let here : ticket_out (get_or d.tickets k y) ≡ ticket_out y = ap ticket_out (get_or_from_slice_get d.tickets k y y is) in
    omega (arith, sum_by-set ticket_out d.tickets k x y (slice_get_within d.tickets k y is), here)

slot_held : (d : Desk) (w : ℕ) (p : Pipe) (m : ℕ) → HoldsPipe d w p m → slot_out (slot d p) ≡ 1
slot_held d w p m held = ap one_out held

-- a job that is out stays out
pub out_held : (d : Desk) (w : ℕ) (p : Pipe) (m v n : ℕ) (x : Option ℕ) → length d.slots ≡ 3 → HoldsPipe d w p m → jobs_out (with_slot d p (slot_with (held_by v n) x)) ≡ jobs_out d
out_held d w p m v n x three held = omega (arith, out_slot d p (slot_with (held_by v n) x) three, slot_held d w p m held)

out_freed : (d : Desk) (w : ℕ) (p : Pipe) (m : ℕ) (x : Option ℕ) → length d.slots ≡ 3 → HoldsPipe d w p m → jobs_out (with_slot d p (slot_with None x)) + 1 ≡ jobs_out d
out_freed d w p m x three held = omega (arith, out_slot d p (slot_with None x) three, slot_held d w p m held)

-- a finished job, and one that is given back, is out no more
pub out_done : (script : Recipe) (d : Desk) (name : JobName) (w m : ℕ) → length d.slots ≡ 3 → May script d (done_entry name w m) → jobs_out (next d (done_entry name w m)) + 1 ≡ jobs_out d
out_done script d (job.Pipe p) w m three may = out_freed d w p m (Some m) three may
out_done script d (job.Ticket t) w m three may = omega (arith, out_ticket d t Done (Out w) may)

pub out_back : (script : Recipe) (d : Desk) (name : JobName) (w : ℕ) → length d.slots ≡ 3 → May script d (back_entry name w) → jobs_out (next d (back_entry name w)) + 1 ≡ jobs_out d
out_back script d (job.Pipe p) w three may = out_freed d w p may.0 (slot d p).published three may.1
out_back script d (job.Ticket t) w three may = omega (arith, out_ticket d t Waiting (Out w) may)

pub owed_done : (script : Recipe) (d : Desk) (name : JobName) (w m : ℕ) → length d.slots ≡ 3 → May script d (done_entry name w m) → owed (next d (done_entry name w m)) + 1 ≡ owed d
owed_done script d (job.Pipe p) w m three may = omega (arith, out_done script d (job.Pipe p) w m three may)
owed_done script d (job.Ticket t) w m three may = omega (arith, out_done script d (job.Ticket t) w m three may)

pub owed_back : (script : Recipe) (d : Desk) (name : JobName) (w : ℕ) → length d.slots ≡ 3 → May script d (back_entry name w) → owed (next d (back_entry name w)) + 1 ≡ owed d
owed_back script d (job.Pipe p) w three may = omega (arith, out_back script d (job.Pipe p) w three may)
owed_back script d (job.Ticket t) w three may = omega (arith, out_back script d (job.Ticket t) w three may)

-- ---- tickets

tickets_put : (ts : List TicketState) (t : ℕ) (x : TicketState) → length (with_numbered ts t x) ≡ length ts
tickets_put ts zero x = refl
tickets_put ts (suc k) x = length-set ts k x

-- an entry asks for at most one ticket
pub tickets_next : (d : Desk) (e : Entry) → length (next d e).tickets ≤ length d.tickets + 1
tickets_next d (Changed m) = omega arith
tickets_next d (Asked t m) = omega (arith, length-append d.tickets (Waiting ∷ []))
tickets_next d Settled = omega arith
tickets_next d Closed = omega arith
tickets_next d (Took p w m) = omega arith
tickets_next d (Restarted p w m) = omega arith
tickets_next d (Published p w m) = omega arith
tickets_next d (GaveBack p w) = omega arith
tickets_next d (TicketTook t w) = omega (arith, tickets_put d.tickets t (Out w))
tickets_next d (TicketDone t w) = omega (arith, tickets_put d.tickets t Done)
tickets_next d (TicketBack t w) = omega (arith, tickets_put d.tickets t Waiting)
tickets_next d (Stopped w) = omega arith

-- the tickets are the same after an entry of a ticket
pub tickets_kept : (d : Desk) (t : ℕ) (x : TicketState) → length (with_ticket d t x).tickets ≡ length d.tickets
tickets_kept d t x = tickets_put d.tickets t x

-- one more ticket waits
pub out_asked : (d : Desk) (t m : ℕ) → jobs_out (next d (Asked t m)) ≡ jobs_out d
out_asked d t m = omega (arith, sum_by-append ticket_out d.tickets (Waiting ∷ []))
