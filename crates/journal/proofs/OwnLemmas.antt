-- what a worker has is what its own entries say
use Rattle.std.proofs.Common.{◌≡◌, ◌≢◌, ℕ, zero, suc, ◌↔◌, List, [], ◌∷◌, ◌++◌, length, refl, sym, ap, subst, ◌∙◌, Bool, true, false, cond, Option, Some, None, eqb, eq-eqb, ⊎_elim}
use Rattle.std.proofs.lemmas.Bool.Decides.{eqb_tells}
use Rattle.std.proofs.lemmas.List.Elements.{filter-append}
use Rattle.std.specs.Prelude.{option_map, unwrap_or, ◌==◌}
use Rattle.outside.specs.declared.job_name.JobName.{JobName}
use Rattle.outside.specs.declared.job_name.JobName.TheVariants as job
use Rattle.outside.specs.declared.job_name.Pipe.{Pipe}
use Rattle.outside.specs.declared.job_name.Pipe.TheVariants.{Full, Preview, Second}
use Rattle.edit_steps.specs.Script.{Recipe}
use Rattle.journal.specs.declared.desk.Hold.{Hold}
use Rattle.journal.specs.declared.desk.Slot.{Slot}
use Rattle.journal.specs.declared.desk.TicketState.{TicketState}
use Rattle.journal.specs.declared.desk.TicketState.TheVariants.{Waiting, Out, Done}
use Rattle.journal.specs.declared.entry.Entry.{Entry}
use Rattle.journal.specs.declared.entry.Entry.TheVariants.{Changed, Asked, Settled, Closed, Took, Restarted, Published, GaveBack, TicketTook, TicketDone, TicketBack, Stopped}
use Rattle.journal.specs.Tickets.{asked_moment}
use Rattle.journal.specs.Desk.{Desk, start, next, desk_of, slot, with_slot, slot_with, with_ticket, May, Legal, LegalFrom, IsIdle, HoldsPipe, IsTicket, held_by}
use Rattle.journal.specs.Lines.{Line, pipe_line}
use Rattle.journal.specs.Own.{Act, after_act, held, own, job_of, worker_of, act_of, job_at, HoldsJob, Says}
use Rattle.journal.proofs.DueLemmas.{due-free}
use Rattle.journal.proofs.SlotLemmas.{by_job, slot_same, slot_other, slots_stay, numbered_same, numbered_other, numbered_push}

abbrev line : JobName → ℕ → Line
line name m = record { job = name; moment = m }

same_moment : (w m v k : ℕ) → held_by w m ≡ held_by v k → m ≡ k
same_moment w m v k e = ap (λ (o : Option Hold). unwrap_or (option_map (λ h. h.moment) o) 0) e

same_worker : (w m v k : ℕ) → held_by w m ≡ held_by v k → w ≡ v
same_worker w m v k e = ap (λ (o : Option Hold). unwrap_or (option_map (λ h. h.worker) o) 0) e

line_moment : (l r : Line) → ◌≡◌ {A = Option Line} (Some l) (Some r) → l.moment ≡ r.moment
line_moment l r e = ap (λ (o : Option Line). unwrap_or (option_map (λ x. x.moment) o) 0) e

line_job : (l r : Line) → ◌≡◌ {A = Option Line} (Some l) (Some r) → l.job ≡ r.job
line_job l r e = ap (λ (o : Option Line). unwrap_or (option_map (λ x. x.job) o) l.job) e

none_some : (l : Line) → ◌≡◌ {A = Option Line} None (Some l) → ⊥
none_some l e = cc

-- ---- one job changes hands

-- what is said of each job, before and after: just this is what a worker has
abbrev SaysOf : (JobName → ℕ → Type 0) → Option Line → Type 0
SaysOf H has = (name : JobName) (m : ℕ) → H name m ↔ (has ≡ Some (line name m))

-- of each other job the same is said
abbrev SameBut : JobName → (JobName → ℕ → Type 0) → (JobName → ℕ → Type 0) → Type 0
SameBut N before after = (name : JobName) (m : ℕ) → (name ≡ N → ⊥) → after name m ↔ before name m

-- a worker that has a job has no other
alone : (H : JobName → ℕ → Type 0) (has : Option Line) (N : JobName) (k : ℕ) → SaysOf H has → H N k → (name : JobName) (m : ℕ) → H name m → name ≡ N
alone H has N k says mine name m other = line_job (line name m) (line N k) (sym ((says name m).0 other) ∙ (says N k).0 mine)

-- the worker takes the job, or holds on to it
says_takes : (H H' : JobName → ℕ → Type 0) (N : JobName) (M : ℕ) → SameBut N H H' → ((m : ℕ) → H' N m ↔ (M ≡ m)) → ((name : JobName) (m : ℕ) → H name m → name ≡ N)
    → SaysOf H' (Some (line N M))
says_takes H H' N M others mine none name m =
    by_job name N (H' name m ↔ (◌≡◌ {A = Option Line} (Some (line N M)) (Some (line name m)))) (λ same. (
      (λ h. ap (λ k. Some (line N k)) ((mine m).0 (subst (λ j. H' j m) same h)) ∙ ap (λ j. Some (line j m)) (sym same)),
      (λ e. subst (λ j. H' j m) (sym same) ((mine m).1 (line_moment (line N M) (line name m) e))),
    )) (λ differ. (
      (λ h. absurd (differ (none name m ((others name m differ).0 h)))),
      (λ e. absurd (differ (sym (line_job (line N M) (line name m) e)))),
    ))

-- the worker leaves its one job
says_ends : (H H' : JobName → ℕ → Type 0) (N : JobName) → SameBut N H H' → ((m : ℕ) → H' N m → ⊥) → ((name : JobName) (m : ℕ) → H name m → name ≡ N) → SaysOf H' None
says_ends H H' N others gone none name m =
    by_job name N (H' name m ↔ (◌≡◌ {A = Option Line} None (Some (line name m))))
    (λ same. ((λ h. absurd (gone m (subst (λ j. H' j m) same h))), (λ e. absurd (none_some (line name m) e))))
    (λ differ. ((λ h. absurd (differ (none name m ((others name m differ).0 h)))), (λ e. absurd (none_some (line name m) e))))

-- another worker's job changes hands
says_same : (H H' : JobName → ℕ → Type 0) (N : JobName) (has : Option Line) → SameBut N H H' → ((m : ℕ) → H' N m → ⊥) → ((m : ℕ) → H N m → ⊥) → SaysOf H has → SaysOf H' has
says_same H H' N has others after before says name m =
    by_job name N (H' name m ↔ (has ≡ Some (line name m)))
    (λ same. ((λ h. absurd (after m (subst (λ j. H' j m) same h))), (λ e. absurd (before m (subst (λ j. H j m) same ((says name m).1 e))))))
    (λ differ. ((λ h. (says name m).0 ((others name m differ).0 h)), (λ e. (others name m differ).1 ((says name m).1 e))))

-- ---- what an entry says of the jobs

pipe_others : (script : Recipe) (d : Desk) (p : Pipe) (x : Slot) (n : ℕ) → SameBut (job.Pipe p) (HoldsJob script d n) (HoldsJob script (with_slot d p x) n)
pipe_others script d p x n (job.Pipe q) m differ =
    let e = slot_other d p q x (λ same. differ (ap job.Pipe same)) in
    ((λ h. ap (λ s. s.hold) (sym e) ∙ h), (λ h. ap (λ s. s.hold) e ∙ h))
pipe_others script d p x n (job.Ticket t) m differ = ((λ h. h), (λ h. h))

ticket_others : (script : Recipe) (d : Desk) (t : ℕ) (x : TicketState) (n : ℕ) → SameBut (job.Ticket t) (HoldsJob script d n) (HoldsJob script (with_ticket d t x) n)
ticket_others script d t x n (job.Pipe q) m differ = ((λ h. h), (λ h. h))
ticket_others script d t x n (job.Ticket u) m differ =
    let e = numbered_other d.tickets t u x (λ same. differ (ap job.Ticket same)) in
    ((λ h. (sym e ∙ h.0, h.1)), (λ h. (e ∙ h.0, h.1)))

-- the pipe's slot has what was put there
hold_now : (d : Desk) (p : Pipe) (hold : Option Hold) (x : Option ℕ) → length d.slots ≡ 3 → (slot (with_slot d p (slot_with hold x)) p).hold ≡ hold
hold_now d p hold x three = ap (λ s. s.hold) (slot_same d p (slot_with hold x) three)

free_held : (w m : ℕ) → ◌≡◌ {A = Option Hold} None (held_by w m) → ⊥
free_held w m e = cc

taken_now : (d : Desk) (p : Pipe) (w k m : ℕ) (x : Option ℕ) → length d.slots ≡ 3 → HoldsPipe (with_slot d p (slot_with (held_by w k) x)) w p m ↔ (k ≡ m)
taken_now d p w k m x three =
    let e = hold_now d p (held_by w k) x three in
    ((λ h. same_moment w k w m (sym e ∙ h)), (λ same. e ∙ ap (held_by w) same))

-- no other worker has it
not_taken : (d : Desk) (p : Pipe) (w k n m : ℕ) (x : Option ℕ) → length d.slots ≡ 3 → w ≢ n → HoldsPipe (with_slot d p (slot_with (held_by w k) x)) n p m → ⊥
not_taken d p w k n m x three other h = other (same_worker w k n m (sym (hold_now d p (held_by w k) x three) ∙ h))

freed_now : (d : Desk) (p : Pipe) (n m : ℕ) (x : Option ℕ) → length d.slots ≡ 3 → HoldsPipe (with_slot d p (slot_with None x)) n p m → ⊥
freed_now d p n m x three h = free_held n m (sym (hold_now d p None x three) ∙ h)

-- a pipe that one worker has is no other's
not_both : (d : Desk) (w n : ℕ) (p : Pipe) (m i : ℕ) → w ≢ n → HoldsPipe d w p m → HoldsPipe d n p i → ⊥
not_both d w n p m i other mine his = other (same_worker w m n i (sym mine ∙ his))

ticket_worker : (w n : ℕ) → ◌≡◌ {A = Option TicketState} (Some (Out w)) (Some (Out n)) → w ≡ n
ticket_worker w n e = cc

ticket_now : (d : Desk) (t : ℕ) (x y z : TicketState) → IsTicket d t y → IsTicket (with_ticket d t x) t z → ◌≡◌ {A = Option TicketState} (Some x) (Some z)
ticket_now d t x y z before h = sym (numbered_same d.tickets t x y before) ∙ h

waiting_out : (n : ℕ) → ◌≡◌ {A = Option TicketState} (Some Waiting) (Some (Out n)) → ⊥
waiting_out n e = cc

no_ticket : (n t : ℕ) → IsTicket start t (Out n) → ⊥
no_ticket n zero h = cc
no_ticket n (suc k) h = cc

done_out : (n : ℕ) → ◌≡◌ {A = Option TicketState} (Some Done) (Some (Out n)) → ⊥
done_out n e = cc

ticket_taken : (script : Recipe) (d : Desk) (t w m : ℕ) (y : TicketState) → IsTicket d t y → HoldsJob script (with_ticket d t (Out w)) w (job.Ticket t) m ↔ (asked_moment script t ≡ m)
ticket_taken script d t w m y before = ((λ h. sym h.1), (λ e. (numbered_same d.tickets t (Out w) y before, sym e)))

asked_same : (script : Recipe) (d : Desk) (n : ℕ) (has : Option Line) (t m : ℕ) → Says script d n has → Says script (next d (Asked t m)) n has
asked_same script d n has t m says (job.Pipe p) k = says (job.Pipe p) k
asked_same script d n has t m says (job.Ticket u) k =
    let push = numbered_push d.tickets u Waiting (Out n) (λ (e : Waiting ≡ Out n). cc) in
    ((λ h. (says (job.Ticket u) k).0 (push.0 h.0, h.1)), (λ e. let old = (says (job.Ticket u) k).1 e in (push.1 old.0, old.1)))

-- a worker without a job has none
none : (script : Recipe) (d : Desk) (w : ℕ) → IsIdle d w → (N name : JobName) (m : ℕ) → HoldsJob script d w name m → name ≡ N
none script d w idle N (job.Pipe p) m h = absurd (idle.pipes_free p m h)
none script d w idle N (job.Ticket t) m h = absurd (idle.tickets_free t h.0)

-- an entry of the worker's own
says_mine : (script : Recipe) (d : Desk) (e : Entry) (has : Option Line) → length d.slots ≡ 3 → Says script d (worker_of e) has → May script d e
    → Says script (next d e) (worker_of e) (after_act has (act_of script e))
says_mine script d (Changed m) has three says may name k = says name k
says_mine script d (Asked t m) has three says may name k = asked_same script d 0 has t m says name k
says_mine script d Settled has three says may name k = says name k
says_mine script d Closed has three says may name k = says name k
says_mine script d (Took p w m) has three says may name k =
    says_takes (HoldsJob script d w) _ (job.Pipe p) m (pipe_others script d p _ w) (λ k. taken_now d p w m k _ three) (none script d w may.1 (job.Pipe p)) name k
says_mine script d (Restarted p w m) has three says may name k =
    says_takes (HoldsJob script d w) _ (job.Pipe p) m (pipe_others script d p _ w) (λ k. taken_now d p w m k _ three)
    (alone (HoldsJob script d w) has (job.Pipe p) may.0 says may.1.0) name k
says_mine script d (Published p w m) has three says may name k =
    says_ends (HoldsJob script d w) _ (job.Pipe p) (pipe_others script d p _ w) (λ k. freed_now d p w k _ three) (alone (HoldsJob script d w) has (job.Pipe p) m says may) name k
says_mine script d (GaveBack p w) has three says may name k =
    says_ends (HoldsJob script d w) _ (job.Pipe p) (pipe_others script d p _ w) (λ k. freed_now d p w k _ three) (alone (HoldsJob script d w) has (job.Pipe p) may.0 says may.1) name k
says_mine script d (TicketTook t w) has three says may name k =
    says_takes (HoldsJob script d w) _ (job.Ticket t) (asked_moment script t) (ticket_others script d t _ w) (λ k. ticket_taken script d t w k Waiting may.0)
    (none script d w may.1 (job.Ticket t)) name k
says_mine script d (TicketDone t w) has three says may name k =
    says_ends (HoldsJob script d w) _ (job.Ticket t) (ticket_others script d t _ w) (λ k h. done_out w (ticket_now d t Done (Out w) (Out w) may h.0))
    (alone (HoldsJob script d w) has (job.Ticket t) (asked_moment script t) says (may, refl)) name k
says_mine script d (TicketBack t w) has three says may name k =
    says_ends (HoldsJob script d w) _ (job.Ticket t) (ticket_others script d t _ w) (λ k h. waiting_out w (ticket_now d t Waiting (Out w) (Out w) may h.0))
    (alone (HoldsJob script d w) has (job.Ticket t) (asked_moment script t) says (may, refl)) name k
says_mine script d (Stopped w) has three says may name k = says name k

-- an entry of another worker
says_other : (script : Recipe) (d : Desk) (e : Entry) (n : ℕ) (has : Option Line) → length d.slots ≡ 3 → worker_of e ≢ n → Says script d n has → May script d e → Says script (next d e) n has
says_other script d (Changed m) n has three other says may name k = says name k
says_other script d (Asked t m) n has three other says may name k = asked_same script d n has t m says name k
says_other script d Settled n has three other says may name k = says name k
says_other script d Closed n has three other says may name k = says name k
says_other script d (Took p w m) n has three other says may name k =
    says_same (HoldsJob script d n) _ (job.Pipe p) has (pipe_others script d p _ n) (λ k. not_taken d p w m n k _ three other) (λ k h. free_held n k (sym (due-free script d p may.0) ∙ h)) says name k
says_other script d (Restarted p w m) n has three other says may name k =
    says_same (HoldsJob script d n) _ (job.Pipe p) has (pipe_others script d p _ n) (λ k. not_taken d p w m n k _ three other) (λ k. not_both d w n p may.0 k other may.1.0) says name k
says_other script d (Published p w m) n has three other says may name k =
    says_same (HoldsJob script d n) _ (job.Pipe p) has (pipe_others script d p _ n) (λ k. freed_now d p n k _ three) (λ k. not_both d w n p m k other may) says name k
says_other script d (GaveBack p w) n has three other says may name k =
    says_same (HoldsJob script d n) _ (job.Pipe p) has (pipe_others script d p _ n) (λ k. freed_now d p n k _ three) (λ k. not_both d w n p may.0 k other may.1) says name k
says_other script d (TicketTook t w) n has three other says may name k =
    says_same (HoldsJob script d n) _ (job.Ticket t) has (ticket_others script d t _ n) (λ k h. other (ticket_worker w n (ticket_now d t (Out w) Waiting (Out n) may.0 h.0)))
    (λ k h. waiting_out n (sym may.0 ∙ h.0)) says name k
says_other script d (TicketDone t w) n has three other says may name k =
    says_same (HoldsJob script d n) _ (job.Ticket t) has (ticket_others script d t _ n) (λ k h. done_out n (ticket_now d t Done (Out w) (Out n) may h.0))
    (λ k h. other (ticket_worker w n (sym may ∙ h.0))) says name k
says_other script d (TicketBack t w) n has three other says may name k =
    says_same (HoldsJob script d n) _ (job.Ticket t) has (ticket_others script d t _ n) (λ k h. waiting_out n (ticket_now d t Waiting (Out w) (Out n) may h.0))
    (λ k h. other (ticket_worker w n (sym may ∙ h.0))) says name k
says_other script d (Stopped w) n has three other says may name k = says name k

pub says_next : (script : Recipe) (d : Desk) (e : Entry) (n : ℕ) (has : Option Line) → length d.slots ≡ 3 → Says script d n has → May script d e
    → Says script (next d e) n (cond (worker_of e == n) (after_act has (act_of script e)) has)
says_next script d e n has three says may =
    let After : Bool → Type 0 = λ b. Says script (next d e) n (cond b (after_act has (act_of script e)) has) in
    ⊎_elim
    (λ (same : (eqb (worker_of e) n ≡ true) × (worker_of e ≡ n)).
    subst After (sym same.0)
    (subst (λ i. Says script (next d e) i (after_act has (act_of script e))) same.1 (says_mine script d e has three (subst (λ i. Says script d i has) (sym same.1) says) may)))
    (λ (other : (eqb (worker_of e) n ≡ false) × (worker_of e ≢ n)). subst After (sym other.0) (says_other script d e n has three other.1 says may))
    (eqb_tells (worker_of e) n)

-- there is a slot for each pipe at all times
pub slots-next : (d : Desk) (e : Entry) → length d.slots ≡ 3 → length (next d e).slots ≡ 3
slots-next d (Changed m) three = three
slots-next d (Asked t m) three = three
slots-next d Settled three = three
slots-next d Closed three = three
slots-next d (Took p w m) three = slots_stay d p _ three
slots-next d (Restarted p w m) three = slots_stay d p _ three
slots-next d (Published p w m) three = slots_stay d p _ three
slots-next d (GaveBack p w) three = slots_stay d p _ three
slots-next d (TicketTook t w) three = three
slots-next d (TicketDone t w) three = three
slots-next d (TicketBack t w) three = three
slots-next d (Stopped w) three = three

-- ---- one more entry, of any kind

held_from : {E : Type 0} → (act : E → Act) (has : Option Line) (e : E) (es : List E) (b : Bool) → held act has (cond b (e ∷ es) es) ≡ held act (cond b (after_act has (act e)) has) es
held_from act has e es true = refl
held_from act has e es false = refl

held-append : {E : Type 0} → (act : E → Act) (has : Option Line) (xs ys : List E) → held act has (xs ++ ys) ≡ held act (held act has xs) ys
held-append act has [] ys = refl
held-append act has (x ∷ xs) ys = held-append act (after_act has (act x)) xs ys

-- one more entry changes what its worker has, and what no other has
pub job_of-push : {E : Type 0} → (bearer : E → ℕ) (act : E → Act) (n : ℕ) (es : List E) (e : E)
    → job_of bearer act n (es ++ e ∷ []) ≡ cond (bearer e == n) (after_act (job_of bearer act n es) (act e)) (job_of bearer act n es)
job_of-push bearer act n es e =
    ap (held act None) (filter-append (λ x. bearer x == n) es (e ∷ [])) ∙ held-append act None (own bearer n es) (own bearer n (e ∷ []))
    ∙ held_from act (job_of bearer act n es) e [] (bearer e == n)

own_says : (script : Recipe) (n : ℕ) (es : List Entry) (d : Desk) (has : Option Line) → length d.slots ≡ 3 → Says script d n has → LegalFrom script d es
    → Says script (desk_of d es) n (held (act_of script) has (own worker_of n es))
own_says script n [] d has three says legal = says
own_says script n (e ∷ es) d has three says legal =
    subst (Says script (desk_of (next d e) es) n) (sym (held_from (act_of script) has e (own worker_of n es) (worker_of e == n)))
    (own_says script n es (next d e) (cond (worker_of e == n) (after_act has (act_of script e)) has) (slots-next d e three) (says_next script d e n has three says legal.0) legal.1)

pub says_start : (script : Recipe) (n : ℕ) → Says script start n None
says_start script n (job.Pipe Full) m = ((λ h. absurd (free_held n m h)), (λ e. absurd (none_some (pipe_line Full m) e)))
says_start script n (job.Pipe Preview) m = ((λ h. absurd (free_held n m h)), (λ e. absurd (none_some (pipe_line Preview m) e)))
says_start script n (job.Pipe Second) m = ((λ h. absurd (free_held n m h)), (λ e. absurd (none_some (pipe_line Second m) e)))
says_start script n (job.Ticket t) m = ((λ h. absurd (no_ticket n t h.0)), (λ e. absurd (none_some (line (job.Ticket t) m) e)))

-- after a legal journal, a worker has what its own entries say
pub says_now : (script : Recipe) (n : ℕ) (es : List Entry) → Legal script es → Says script (desk_of start es) n (job_at script n es)
says_now script n es legal = own_says script n es start None refl (says_start script n) legal

pub job_at-mine : (script : Recipe) (es : List Entry) (e : Entry) → job_at script (worker_of e) (es ++ e ∷ []) ≡ after_act (job_at script (worker_of e) es) (act_of script e)
job_at-mine script es e =
    job_of-push worker_of (act_of script) (worker_of e) es e
    ∙ ap (λ b. cond b (after_act (job_at script (worker_of e) es) (act_of script e)) (job_at script (worker_of e) es)) (eq-eqb (worker_of e) (worker_of e) refl)

pub job_at-other : (script : Recipe) (n : ℕ) (es : List Entry) (e : Entry) → worker_of e ≢ n → job_at script n (es ++ e ∷ []) ≡ job_at script n es
job_at-other script n es e other =
    job_of-push worker_of (act_of script) n es e
    ∙ ap (λ b. cond b (after_act (job_at script n es) (act_of script e)) (job_at script n es))
    (⊎_elim (λ (same : (eqb (worker_of e) n ≡ true) × (worker_of e ≡ n)). absurd (other same.1)) (λ (h : (eqb (worker_of e) n ≡ false) × (worker_of e ≢ n)). h.0) (eqb_tells (worker_of e) n))
