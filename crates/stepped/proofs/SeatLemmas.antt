-- the workers' seats: what the desk says of each run, and what one entry, or one changed run, does to that
use Rattle.std.proofs.Common.{◌≡◌, ◌≢◌, ℕ, zero, suc, ◌+◌, ◌<◌, ◌≤◌, ◌↔◌, List, [], ◌∷◌, ◌++◌, length, map, refl, sym, ap, subst, ◌∙◌, arith, Bool, true, false, cond, Option, Some, None, eqb, eq-eqb, ⊎_elim, replicate}
use Rattle.std.proofs.lemmas.Bool.Decides.{eqb_tells}
use Rattle.std.specs.Prelude.{option_map, option_and_then, is_none, is_some, slice_set, ◌==◌, slice_get}
use Rattle.std.specs.Option.{option_map_or}
use Rattle.std.proofs.lemmas.List.{set-set, length-set, get_or-set_same, get_or-set_other, set-get_or, length-replicate}
use Rattle.outside.specs.declared.job_name.JobName.{JobName}
use Rattle.outside.specs.declared.job_name.JobName.TheVariants as job
use Rattle.outside.specs.declared.job_name.Pipe.{Pipe}
use Rattle.edit_steps.specs.Script.{Recipe}
use Rattle.journal.specs.declared.desk.TicketState.{TicketState}
use Rattle.journal.specs.declared.desk.TicketState.TheVariants.{Waiting, Out, Done}
use Rattle.journal.specs.declared.entry.Entry.{Entry}
use Rattle.journal.specs.declared.entry.Entry.TheVariants as entry
use Rattle.journal.specs.Desk.{Desk, start, next, desk_of, May, IsIdle, IsTicket, HoldsPipe, IsSuperseded, is_waiting, is_due_job}
use Rattle.journal.specs.Tickets.{numbered, asked_moment}
use Rattle.journal.specs.Lines.{Line}
use Rattle.journal.specs.Own.{Stays, after_act, worker_of, act_of, HoldsJob, Says}
use Rattle.journal.proofs.OwnLemmas.{says_next, says_start, slots-next}
use Rattle.journal.proofs.PushLemmas.{desk_of-push}
use Rattle.journal.proofs.SlotLemmas.{by_number}
use Rattle.dev_core.specs.DeskState.{DeskSeen, now, with_entry}
use Rattle.dev_core.specs.Jobs.{JobSeen, OfPipe, took_entry, done_entry, back_entry, job_seen}
use Rattle.dev_core.specs.Subject.{SubjectSeen}
use Rattle.stepped.specs.Machine.{OpenSeen, run_at, line_at, IsSeated, AreSeated, AreHeld, moment_for}
use Rattle.stepped.specs.Step.{is_behind, last_worker}

-- ---- seats

pub run_within : (runs : List (Option OpenSeen)) (w : ℕ) (o : OpenSeen) → run_at runs w ≡ Some o → w < length runs
run_within [] w o is = absurd cc
run_within (r ∷ rs) zero o is = omega arith
run_within (r ∷ rs) (suc w) o is = let h : w < length rs = run_within rs w o is in omega arith

seat_same : (runs : List (Option OpenSeen)) (w : ℕ) (x : Option OpenSeen) → w < length runs → run_at (slice_set runs w x) w ≡ x
seat_same runs w x within = get_or-set_same runs w x None within

seat_other : (runs : List (Option OpenSeen)) (w n : ℕ) (x : Option OpenSeen) → (n ≡ w → ⊥) → run_at (slice_set runs w x) n ≡ run_at runs n
seat_other runs w n x other = get_or-set_other runs w n x None other

-- what holds of the seat that was written, and of each other one as before, holds of each
seat_at : (runs : List (Option OpenSeen)) (w n : ℕ) (x : Option OpenSeen) (P : ℕ → Option OpenSeen → Type 0) → w < length runs → P w x → ((n ≡ w → ⊥) → P n (run_at runs n))
    → P n (run_at (slice_set runs w x) n)
seat_at runs w n x P within here other =
    by_number n w (P n (run_at (slice_set runs w x) n))
    (λ same. subst (λ i. P i (run_at (slice_set runs w x) i)) (sym same) (subst (P w) (sym (seat_same runs w x within)) here))
    (λ differ. subst (P n) (sym (seat_other runs w n x differ)) (other differ))

-- a run that is taken out and put back
pub put_back : (runs runs1 runs2 : List (Option OpenSeen)) (w : ℕ) (x : Option OpenSeen) → runs1 ≡ slice_set runs w None → runs2 ≡ slice_set runs1 w x → runs2 ≡ slice_set runs w x
put_back runs runs1 runs2 w x out back = back ∙ ap (λ rs. slice_set rs w x) out ∙ set-set runs w None x

pub put_same : (runs runs1 runs2 : List (Option OpenSeen)) (w : ℕ) (o x : OpenSeen) → run_at runs w ≡ Some o → runs1 ≡ slice_set runs w None → runs2 ≡ slice_set runs1 w (Some x) → x ≡ o
    → runs2 ≡ runs
put_same runs runs1 runs2 w o x is out back same =
    put_back runs runs1 runs2 w (Some x) out back ∙ ap (λ r. slice_set runs w r) (ap Some same ∙ sym is) ∙ set-get_or runs w None

pub free_then : (runs runs1 : List (Option OpenSeen)) (w : ℕ) → runs1 ≡ slice_set runs w None → w < length runs → run_at runs1 w ≡ None
free_then runs runs1 w out within = ap (λ rs. run_at rs w) out ∙ seat_same runs w None within

pub seats_then : (runs runs1 : List (Option OpenSeen)) (w : ℕ) (x : Option OpenSeen) → runs1 ≡ slice_set runs w x → length runs1 ≡ length runs
seats_then runs runs1 w x out = ap length out ∙ length-set runs w x

-- ---- what the desk says

some_line : (o : OpenSeen) → line_at (Some o) ≡ Some (record { job = o.job.name; moment = o.job.moment })
some_line o = refl

none_line : (l : Line) → ◌≡◌ {A = Option Line} None (Some l) → ⊥
none_line l e = cc

-- the worker has its run's job at the desk
pub holds_run : (desk : DeskSeen) (runs : List (Option OpenSeen)) (w : ℕ) (o : OpenSeen) → Says desk.subject.script (now desk) w (line_at (run_at runs w)) → run_at runs w ≡ Some o
    → HoldsJob desk.subject.script (now desk) w o.job.name o.job.moment
holds_run desk runs w o says is = (says o.job.name o.job.moment).1 (ap line_at is)

-- a worker with no run is idle
pub idle_free : (desk : DeskSeen) (runs : List (Option OpenSeen)) (w : ℕ) → AreSeated desk runs → run_at runs w ≡ None → IsIdle (now desk) w
idle_free desk runs w k free = record {
  pipes_free = λ p m h. none_line _ (sym (ap line_at free) ∙ (k.says w (job.Pipe p) m).0 h);
  tickets_free = λ t h. none_line _ (sym (ap line_at free) ∙ (k.says w (job.Ticket t) (asked_moment desk.subject.script t)).0 (h, refl));
}

-- what it has may be given back, with a frame or without
pub may_done : (script : Recipe) (d : Desk) (w n : ℕ) (name : JobName) (m : ℕ) → n ≡ w → HoldsJob script d w name m → May script d (done_entry name n m)
may_done script d w n (job.Pipe p) m same h = h ∙ ap (λ i. Some (record { worker = i; moment = m })) (sym same)
may_done script d w n (job.Ticket t) m same h = h.0 ∙ ap (λ i. Some (Out i)) (sym same)

pub may_back : (script : Recipe) (d : Desk) (w n : ℕ) (name : JobName) (m : ℕ) → n ≡ w → HoldsJob script d w name m → May script d (back_entry name n)
may_back script d w n (job.Pipe p) m same h = (m, h ∙ ap (λ i. Some (record { worker = i; moment = m })) (sym same))
may_back script d w n (job.Ticket t) m same h = h.0 ∙ ap (λ i. Some (Out i)) (sym same)

waits : (o : Option TicketState) → option_map_or is_waiting o false ≡ true → o ≡ Some Waiting
waits None e = cc
waits (Some Waiting) e = refl
waits (Some (Out w)) e = cc
waits (Some Done) e = cc

-- a job that is due may be taken by an idle worker
pub may_take : (script : Recipe) (d : Desk) (name : JobName) (w : ℕ) → is_due_job script d name ≡ true → IsIdle d w → May script d (took_entry name w d.moment)
may_take script d (job.Pipe p) w is_due idle = (is_due, idle, refl)
may_take script d (job.Ticket t) w is_due idle = (waits (numbered d.tickets t) is_due, idle)

-- a run that is behind may begin anew
pub superseded : (script : Recipe) (d : Desk) (w n : ℕ) (name : JobName) (m : ℕ) → n ≡ w → HoldsJob script d w name m → is_behind script d name m ≡ true
    → OfPipe name (λ p. IsSuperseded script d p n m)
superseded script d w n (job.Pipe p) m same h behind = (h ∙ ap (λ i. Some (record { worker = i; moment = m })) (sym same), behind)
superseded script d w n (job.Ticket t) m same h behind = cc

-- ---- what seats keep

-- one entry, whose worker has what its act leaves
pub says_entered : (desk : DeskSeen) (e : Entry) (n : ℕ) (has : Option Line) → length (now desk).slots ≡ 3 → May desk.subject.script (now desk) e → Says desk.subject.script (now desk) n has
    → Says desk.subject.script (now (with_entry desk e)) n (cond (worker_of e == n) (after_act has (act_of desk.subject.script e)) has)
says_entered desk e n has three may says =
    subst (λ d. Says desk.subject.script d n (cond (worker_of e == n) (after_act has (act_of desk.subject.script e)) has)) (sym (desk_of-push start desk.journal e))
    (says_next desk.subject.script (now desk) e n has three says may)

pub slots_entered : (desk : DeskSeen) (e : Entry) → length (now desk).slots ≡ 3 → length (now (with_entry desk e)).slots ≡ 3
slots_entered desk e three = ap (λ (d : Desk). length d.slots) (desk_of-push start desk.journal e) ∙ slots-next (now desk) e three

cond_on : {A : Type 0} → (b : Bool) (x y : A) → b ≡ true → cond b x y ≡ x
cond_on b x y e = ap (λ i. cond i x y) e

pub cond_off : {A : Type 0} → (b : Bool) (x y : A) → b ≡ false → cond b x y ≡ y
cond_off b x y e = ap (λ i. cond i x y) e

cond_same : {A : Type 0} → (b : Bool) (x y : A) → x ≡ y → cond b x y ≡ y
cond_same true x y e = e
cond_same false x y e = refl

-- a run changes within itself
pub seated_changed : (desk : DeskSeen) (runs : List (Option OpenSeen)) (w : ℕ) (o x : OpenSeen) → AreSeated desk runs → run_at runs w ≡ Some o → x.job ≡ o.job
    → AreSeated desk (slice_set runs w (Some x))
seated_changed desk runs w o x k is same =
    let within = run_within runs w o is in
    let line_same : line_at (run_at runs w) ≡ line_at (Some x) = ap line_at is ∙ ap (λ (j : JobSeen). Some (record { job = j.name; moment = j.moment })) (sym same) in
    record {
      seats = length-set runs w (Some x) ∙ k.seats;
      slots = k.slots;
      says = λ n. seat_at runs w n (Some x) (λ i r. Says desk.subject.script (now desk) i (line_at r)) within (subst (Says desk.subject.script (now desk) w) line_same (k.says w)) (λ differ. k.says n);
      jobs = λ n y at. seat_at runs w n (Some x) (λ i r. r ≡ Some y → IsSeated desk.subject i y) within
          (λ (at_x : ◌≡◌ {A = Option OpenSeen} (Some x) (Some y)).
          let one : x ≡ y = cc in
          let mine = k.jobs w o is in
          subst (IsSeated desk.subject w) one (record { subject_is = ap (λ (j : JobSeen). j.subject) same ∙ mine.subject_is; worker_is = ap (λ (j : JobSeen). j.worker) same ∙ mine.worker_is }))
          (λ differ at_n. k.jobs n y at_n) at;
    }

-- a worker makes an entry, which changes its run
pub seated_entered : (desk : DeskSeen) (runs : List (Option OpenSeen)) (e : Entry) (w : ℕ) (x : Option OpenSeen) → AreSeated desk runs → w < length runs
    → worker_of e ≡ w → May desk.subject.script (now desk) e → line_at x ≡ after_act (line_at (run_at runs w)) (act_of desk.subject.script e)
    → ((o : OpenSeen) → x ≡ Some o → IsSeated desk.subject w o) → AreSeated (with_entry desk e) (slice_set runs w x)
seated_entered desk runs e w x k within mine may same seated =
    let script = desk.subject.script in
    record {
      seats = length-set runs w x ∙ k.seats;
      slots = slots_entered desk e k.slots;
      says = λ n. seat_at runs w n x (λ i r. Says script (now (with_entry desk e)) i (line_at r)) within
          (subst (Says script (now (with_entry desk e)) w) (cond_on (worker_of e == w) _ _ (eq-eqb (worker_of e) w mine) ∙ sym same) (says_entered desk e w (line_at (run_at runs w)) k.slots may (k.says w)))
          (λ differ. subst (Says script (now (with_entry desk e)) n) (cond_off (worker_of e == n) _ _ (eqb_differ (worker_of e) n (λ here. differ (sym here ∙ mine))))
          (says_entered desk e n (line_at (run_at runs n)) k.slots may (k.says n)));
      jobs = λ n y at. seat_at runs w n x (λ i r. r ≡ Some y → IsSeated desk.subject i y) within (seated y) (λ differ at_n. k.jobs n y at_n) at;
    }
  where
    eqb_differ : (a b : ℕ) → (a ≡ b → ⊥) → eqb a b ≡ false
    eqb_differ a b differ = ⊎_elim (λ (h : (eqb a b ≡ true) × (a ≡ b)). absurd (differ h.1)) (λ (h : (eqb a b ≡ false) × (a ≢ b)). h.0) (eqb_tells a b)

-- the editor makes an entry
pub seated_edited : (desk : DeskSeen) (runs : List (Option OpenSeen)) (e : Entry) → AreSeated desk runs → May desk.subject.script (now desk) e → act_of desk.subject.script e ≡ Stays
    → AreSeated (with_entry desk e) runs
seated_edited desk runs e k may stays = record {
  seats = k.seats;
  slots = slots_entered desk e k.slots;
  says = λ n. subst (Says desk.subject.script (now (with_entry desk e)) n) (cond_same (worker_of e == n) _ _ (ap (after_act (line_at (run_at runs n))) stays))
      (says_entered desk e n (line_at (run_at runs n)) k.slots may (k.says n));
  jobs = k.jobs;
}

-- nobody has a job at the start
run_none : (n w : ℕ) → run_at (replicate n None) w ≡ None
run_none zero w = refl
run_none (suc n) zero = refl
run_none (suc n) (suc w) = run_none n w

pub seated_start : (subject : SubjectSeen) (runs : List (Option OpenSeen)) → runs ≡ replicate (last_worker subject + 1) None → AreSeated (record { subject = subject; journal = [] }) runs
seated_start subject runs is =
    subst (AreSeated (record { subject = subject; journal = [] })) (sym is) (record {
      seats = length-replicate (last_worker subject + 1) None;
      slots = refl;
      says = λ n. subst (λ r. Says subject.script start n (line_at r)) (sym (run_none (last_worker subject + 1) n)) (says_start subject.script n);
      jobs = λ n o at. let none : ◌≡◌ {A = Option OpenSeen} None (Some o) = sym (run_none (last_worker subject + 1) n) ∙ at in cc;
    })
