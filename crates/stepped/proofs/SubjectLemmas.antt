-- no event changes the subject
use Rattle.std.proofs.Common.{◌≡◌, ℕ, refl, sym, ap, ◌∙◌, Bool, true, false, Option, Some, None}
use Rattle.std.specs.Prelude.{option_map, option_and_then}
use Rattle.std.proofs.lemmas.Option.{none-some, same_Some}
use Rattle.journal.specs.declared.entry.Entry.{Entry}
use Rattle.stage_cache.specs.Stages.{Stage}
use Rattle.events.specs.declared.event.Event.{Event}
use Rattle.events.specs.declared.event.Event.TheVariants.{Editor, Take, TakeTicket, Look, Restart, Find, Reach, Evict, Demote, Abandon, Load, Leave, Node, Keep, Finish, Publish, FinishTicket, GiveBack}
use Rattle.stepped.specs.declared.answer.Answer.{Answer}
use Rattle.stepped.specs.Step.{Core, Run, Next, with_entry, given, step, edit_of, desk_at, run_of, keep_entry, row_look, row_restart, row_find, row_reach, row_evict, row_demote, row_abandon, row_load, row_leave, row_node, row_keep, row_finish, row_publish, row_finish_ticket, row_give_back}

given_keeps : (may : Bool) (s t : Core) (a : Answer) (next : Core × Answer) → given may t a ≡ Some next → t.subject ≡ s.subject → next.0.subject ≡ s.subject
given_keeps true s t a next is same = sym (ap (λ (p : Core × Answer). p.0.subject) (same_Some (t, a) next is)) ∙ same
given_keeps false s t a next is same = absurd (none-some next is)

run_keeps : (s : Core) (f : Run → Next) (o : Option Run) (next : Core × Answer) → ((r : Run) → f r ≡ Some next → next.0.subject ≡ s.subject) → option_and_then f o ≡ Some next
    → next.0.subject ≡ s.subject
run_keeps s f None next each is = absurd (none-some next is)
run_keeps s f (Some r) next each is = each r is

keep_keeps : (s : Core) (w : ℕ) (r : Run) (o : Option Stage) (next : Core × Answer) → keep_entry s w r o ≡ Some next → next.0.subject ≡ s.subject
keep_keeps s w r None next is = absurd (none-some next is)
keep_keeps s w r (Some e) next is = given_keeps _ s _ _ next is refl

edit_keeps : (s : Core) (o : Option (Entry × Answer)) (next : Core × Answer) → option_map (λ (e : Entry × Answer). (with_entry s e.0, e.1)) o ≡ Some next → next.0.subject ≡ s.subject
edit_keeps s None next is = absurd (none-some next is)
edit_keeps s (Some e) next is = sym (ap (λ (p : Core × Answer). p.0.subject) (same_Some (with_entry s e.0, e.1) next is))

pub step-subject : (s : Core) (e : Event) (next : Core × Answer) → step s e ≡ Some next → next.0.subject ≡ s.subject
step-subject s Editor next is = edit_keeps s (edit_of s.subject.script (desk_at s)) next is
step-subject s (Take w p) next is = given_keeps _ s _ _ next is refl
step-subject s (TakeTicket w t) next is = given_keeps _ s _ _ next is refl
step-subject s (Look w) next is = run_keeps s (row_look s w) (run_of s w) next (λ r row. given_keeps _ s _ _ next row refl) is
step-subject s (Restart w) next is = run_keeps s (row_restart s w) (run_of s w) next (λ r row. given_keeps _ s _ _ next row refl) is
step-subject s (Find w) next is = run_keeps s (row_find s w) (run_of s w) next (λ r row. given_keeps _ s _ _ next row refl) is
step-subject s (Reach w) next is = run_keeps s (row_reach s w) (run_of s w) next (λ r row. given_keeps _ s _ _ next row refl) is
step-subject s (Evict w) next is = run_keeps s (row_evict s w) (run_of s w) next (λ r row. given_keeps true s _ _ next row refl) is
step-subject s (Demote w) next is = run_keeps s (row_demote s w) (run_of s w) next (λ r row. given_keeps _ s _ _ next row refl) is
step-subject s (Abandon w) next is = run_keeps s (row_abandon s w) (run_of s w) next (λ r row. given_keeps _ s _ _ next row refl) is
step-subject s (Load w) next is = run_keeps s (row_load s w) (run_of s w) next (λ r row. given_keeps _ s _ _ next row refl) is
step-subject s (Leave w) next is = run_keeps s (row_leave s w) (run_of s w) next (λ r row. given_keeps _ s _ _ next row refl) is
step-subject s (Node w) next is = run_keeps s (row_node s w) (run_of s w) next (λ r row. given_keeps _ s _ _ next row refl) is
step-subject s (Keep w) next is = run_keeps s (row_keep s w) (run_of s w) next (λ r row. keep_keeps s w r _ next row) is
step-subject s (Finish w) next is = run_keeps s (row_finish s w) (run_of s w) next (λ r row. given_keeps _ s _ _ next row refl) is
step-subject s (Publish w) next is = run_keeps s (row_publish s w) (run_of s w) next (λ r row. given_keeps _ s _ _ next row refl) is
step-subject s (FinishTicket w) next is = run_keeps s (row_finish_ticket s w) (run_of s w) next (λ r row. given_keeps _ s _ _ next row refl) is
step-subject s (GiveBack w) next is = run_keeps s (row_give_back s w) (run_of s w) next (λ r row. given_keeps _ s _ _ next row refl) is
