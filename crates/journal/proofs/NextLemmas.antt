-- what a worker takes next
use Rattle.std.proofs.Common.{◌≡◌, ℕ, zero, suc, ◌+◌, Bool, true, false, not, cond, ◌&&◌, List, [], ◌∷◌, refl, sym, ap, subst, ◌∙◌, arith, Option, Some, None}
use Rattle.std.specs.Prelude.{option_map, slice_get}
use Rattle.std.specs.Option.{option_or}
use Rattle.outside.specs.declared.job_name.JobName.{JobName}
use Rattle.outside.specs.declared.job_name.JobName.TheVariants as job
use Rattle.outside.specs.declared.job_name.Pipe.{Pipe}
use Rattle.edit_steps.specs.Script.{Recipe}
use Rattle.journal.specs.declared.desk.TicketState.{TicketState}
use Rattle.journal.specs.declared.desk.TicketState.TheVariants.{Waiting, Out, Done}
use Rattle.journal.specs.Pipes.{pipes}
use Rattle.journal.specs.Tickets.{numbered}
use Rattle.journal.specs.Desk.{Desk, is_due, first_due, first_waiting, due, IsTicket}

first_due-is : (script : Recipe) (d : Desk) (p : Pipe) (ps : List Pipe) → first_due script d ps ≡ Some p → is_due script d p ≡ true
first_due-is script d p [] e = absurd cc
first_due-is script d p (q ∷ ps) e =
    (elim (is_due script d q) as (λ b. is_due script d q ≡ b → cond b (Some q) (first_due script d ps) ≡ Some p → is_due script d p ≡ true) [
      | true ↦ λ on here. let same : q ≡ p = cc in subst (λ r. is_due script d r ≡ true) same on
      | false ↦ λ _ later. first_due-is script d p ps later
    ]) refl e

no_pipe : (p : Pipe) (o : Option ℕ) → option_map job.Ticket o ≡ Some (job.Pipe p) → ⊥
no_pipe p None e = cc
no_pipe p (Some t) e = let same : job.Ticket t ≡ job.Pipe p = cc in cc

-- a pipe that is taken next is due
pub due-pipe : (script : Recipe) (d : Desk) (p : Pipe) → due script d ≡ Some (job.Pipe p) → is_due script d p ≡ true
due-pipe script d p e = by_first (first_due script d pipes) refl e
  where
    by_first : (o : Option Pipe) → first_due script d pipes ≡ o → option_or (option_map job.Pipe o) (option_map job.Ticket (first_waiting 1 d.tickets)) ≡ Some (job.Pipe p) → is_due script d p ≡ true
    by_first None first h = absurd (no_pipe p (first_waiting 1 d.tickets) h)
    by_first (Some q) first h = let same : job.Pipe q ≡ job.Pipe p = cc in first_due-is script d p pipes (first ∙ (let q_is : q ≡ p = cc in ap Some q_is))

-- the ticket that waits, at its place
record WaitsAt (n : ℕ) (ts : List TicketState) (t : ℕ) : Type 0 where
  place : ℕ
  counted : t ≡ n + place
  stands : slice_get ts place ≡ Some Waiting

waits_later : (n : ℕ) (x : TicketState) (ts : List TicketState) (t : ℕ) → WaitsAt (n + 1) ts t → WaitsAt n (x ∷ ts) t
waits_later n x ts t at = record { place = suc at.place; counted = omega (arith, at.counted); stands = at.stands }

first_waiting-is : (n : ℕ) (ts : List TicketState) (t : ℕ) → first_waiting n ts ≡ Some t → WaitsAt n ts t
first_waiting-is n [] t e = absurd cc
first_waiting-is n (Waiting ∷ ts) t e = let same : n ≡ t = cc in record { place = 0; counted = omega (arith, same); stands = refl }
first_waiting-is n (Out w ∷ ts) t e = waits_later n (Out w) ts t (first_waiting-is (n + 1) ts t e)
first_waiting-is n (Done ∷ ts) t e = waits_later n Done ts t (first_waiting-is (n + 1) ts t e)

no_ticket : (t : ℕ) (p : Pipe) → ◌≡◌ {A = Option JobName} (Some (job.Pipe p)) (Some (job.Ticket t)) → ⊥
no_ticket t p e = let same : job.Pipe p ≡ job.Ticket t = cc in cc

numbered_at : (ts : List TicketState) (t k : ℕ) (x : TicketState) → t ≡ 1 + k → slice_get ts k ≡ Some x → numbered ts t ≡ Some x
numbered_at ts zero k x e h = absurd (omega arith)
numbered_at ts (suc t) k x e h = let same : t ≡ k = omega arith in subst (λ i. slice_get ts i ≡ Some x) (sym same) h

-- a ticket that is taken next waits
pub due-ticket : (script : Recipe) (d : Desk) (t : ℕ) → due script d ≡ Some (job.Ticket t) → IsTicket d t Waiting
due-ticket script d t e = by_first (first_due script d pipes) (first_waiting 1 d.tickets) refl e
  where
    by_first : (o : Option Pipe) (w : Option ℕ) → first_waiting 1 d.tickets ≡ w → option_or (option_map job.Pipe o) (option_map job.Ticket w) ≡ Some (job.Ticket t) → IsTicket d t Waiting
    by_first (Some q) w is h = absurd (no_ticket t q h)
    by_first None None is h = absurd cc
    by_first None (Some u) is h =
        let same : job.Ticket u ≡ job.Ticket t = cc in
        let u_is : u ≡ t = cc in
        let at = first_waiting-is 1 d.tickets t (is ∙ ap Some u_is) in
        numbered_at d.tickets t at.place Waiting at.counted at.stands
