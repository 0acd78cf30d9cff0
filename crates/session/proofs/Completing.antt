-- Where each thread did all, the journal is complete: some pass saw the whole of it in its last turn, and nobody has a job.
use Rattle.std.proofs.Common.{◌≡◌, ℕ, zero, suc, ◌+◌, ◌<◌, ◌≤◌, ◌⊎◌, Bool, true, false, cond, not, ◌&&◌, ◌||◌, eqb, List, [], ◌∷◌, ◌++◌, length, refl, sym, ap, subst, ◌∙◌, eq-eqb, arith, Option, Some, None, inl, inr}
use Rattle.std.specs.Prelude.{is_none, option_map, slice_get, ◌==◌}
use Rattle.std.specs.List.{Contains, list_all}
use Rattle.std.specs.Option.{option_or}
use Rattle.std.proofs.lemmas.Bool.{cases_lt}
use Rattle.std.proofs.lemmas.List.{append-nil}
use Rattle.std.proofs.lemmas.List.Elements.{filter-append}
use Rattle.outside.specs.declared.job_name.JobName.{JobName}
use Rattle.outside.specs.declared.job_name.JobName.TheVariants as job
use Rattle.outside.specs.declared.job_name.Pipe.{Pipe}
use Rattle.edit_steps.specs.Pipes.{has_pipe}
use Rattle.edit_steps.specs.Script.{Recipe}
use Rattle.turn_lock.specs.Story.{StartsWith, borne}
use Rattle.journal.specs.declared.desk.Hold.{Hold}
use Rattle.journal.specs.declared.desk.TicketState.{TicketState}
use Rattle.journal.specs.declared.desk.TicketState.TheVariants.{Waiting, Out, Done}
use Rattle.journal.specs.declared.entry.Entry.{Entry}
use Rattle.journal.specs.declared.entry.Entry.TheVariants.{Changed, Asked, Settled, Closed, Took, Restarted, Published, GaveBack, TicketTook, TicketDone, TicketBack, Stopped}
use Rattle.journal.specs.Pipes.{pipes}
use Rattle.journal.specs.Lines.{Line}
use Rattle.journal.specs.Desk.{Desk, start, next, desk_of, slot, is_free, is_up_to_date, is_due, is_at_rest, is_done, is_settled, first_due, first_waiting, due, HoldsPipe, May, LegalFrom, Legal, IsComplete, held_by}
use Rattle.journal.specs.Own.{held, act_of, worker_of, job_at, HoldsJob}
use Rattle.journal.proofs.DueLemmas.{both_on}
use Rattle.journal.proofs.OwnLemmas.{says_now}
use Rattle.desk.specs.Passes.{DeskLock, DeskKnown}
use Rattle.desk.specs.Turns.{desk_after}
use Rattle.session.specs.Finished.{IsFinished}

-- ---- the last worker of a journal

-- the worker of the last entry, n where there is none
abbrev last_of : ℕ → List Entry → ℕ
last_of n [] = n
last_of n (e ∷ es) = last_of (worker_of e) es

last_of-append : (n : ℕ) (xs ys : List Entry) → last_of n (xs ++ ys) ≡ last_of (last_of n xs) ys
last_of-append n [] ys = refl
last_of-append n (x ∷ xs) ys = last_of-append (worker_of x) xs ys

shorter : (e : Entry) (es : List Entry) (b : Bool) → cond b (e ∷ es) es ≡ [] → es ≡ []
shorter e es true h = absurd cc
shorter e es false h = h

-- it bears the last entry
not_empty : (e : Entry) (es : List Entry) → borne worker_of (last_of (worker_of e) es) (e ∷ es) ≡ [] → ⊥
not_empty e [] h =
    let there : ◌≡◌ {A = List Entry} (e ∷ []) [] = ap (λ b. cond b (e ∷ []) []) (sym (eq-eqb (worker_of e) (worker_of e) refl)) ∙ h in cc
not_empty e (f ∷ fs) h =
    let n = last_of (worker_of f) fs in
    not_empty f fs (shorter e (borne worker_of n (f ∷ fs)) (eqb (worker_of e) n) h)

nothing_after : (xs ys : List Entry) → xs ≡ xs ++ ys → ys ≡ []
nothing_after [] ys e = sym e
nothing_after (x ∷ xs) ys e = let f : xs ≡ xs ++ ys = cc in nothing_after xs ys f

-- a journal's beginning that has all entries of the journal's last worker is the whole of it
whole : (n : ℕ) (seen journal : List Entry) → StartsWith journal seen → borne worker_of (last_of n journal) journal ≡ borne worker_of (last_of n journal) seen → journal ≡ seen
whole n seen journal ([], is) same = is ∙ append-nil seen
whole n seen journal (e ∷ rest, is) same =
    let k = last_of n journal in
    let split : borne worker_of k journal ≡ borne worker_of k seen ++ borne worker_of k (e ∷ rest)
    = ap (borne worker_of k) is ∙ filter-append (λ x. worker_of x == k) seen (e ∷ rest) in
    let none : borne worker_of k (e ∷ rest) ≡ [] = nothing_after (borne worker_of k seen) (borne worker_of k (e ∷ rest)) (sym same ∙ split) in
    let last : k ≡ last_of (worker_of e) rest = ap (last_of n) is ∙ last_of-append n seen (e ∷ rest) in
    absurd (not_empty e rest (subst (λ i. borne worker_of i (e ∷ rest) ≡ []) last none))

-- ---- all steps of a closed desk were made

abbrev AllMade : Recipe → Desk → Type 0
AllMade script d = d.closed ≡ true → d.steps ≡ length script.steps

no_step : {A : Type 0} → (xs : List A) (n : ℕ) (x : A) → slice_get xs n ≡ Some x → n ≡ length xs → ⊥
no_step [] n x there end = absurd cc
no_step (y ∷ xs) zero x there end = absurd (omega arith)
no_step (y ∷ xs) (suc n) x there end = no_step xs n x there (omega arith)

all_made_next : (script : Recipe) (d : Desk) (e : Entry) → AllMade script d → May script d e → AllMade script (next d e)
all_made_next script d (Changed m) made may closed = absurd (no_step script.steps d.steps may.0.step may.0.stands (made closed))
all_made_next script d (Asked t m) made may closed = absurd (no_step script.steps d.steps may.0.step may.0.stands (made closed))
all_made_next script d Settled made may closed = absurd (no_step script.steps d.steps may.0.step may.0.stands (made closed))
all_made_next script d Closed made may closed = may.0
all_made_next script d (Took p w m) made may closed = made closed
all_made_next script d (Restarted p w m) made may closed = made closed
all_made_next script d (Published p w m) made may closed = made closed
all_made_next script d (GaveBack p w) made may closed = made closed
all_made_next script d (TicketTook t w) made may closed = made closed
all_made_next script d (TicketDone t w) made may closed = made closed
all_made_next script d (TicketBack t w) made may closed = made closed
all_made_next script d (Stopped w) made may closed = made closed

all_made : (script : Recipe) (d : Desk) (es : List Entry) → AllMade script d → LegalFrom script d es → AllMade script (desk_of d es)
all_made script d [] made legal = made
all_made script d (e ∷ es) made legal = all_made script (next d e) es (all_made_next script d e made legal.0) legal.1

-- ---- nothing is due, and nobody has a job

first_none : (o : Option Pipe) (w : Option ℕ) → option_or (option_map job.Pipe o) (option_map job.Ticket w) ≡ None → (o ≡ None) × (w ≡ None)
first_none None None e = (refl, refl)
first_none None (Some t) e = absurd cc
first_none (Some p) w e = absurd cc

none_of : (script : Recipe) (d : Desk) (p : Pipe) (ps : List Pipe) → first_due script d (p ∷ ps) ≡ None → (is_due script d p ≡ false) × (first_due script d ps ≡ None)
none_of script d p ps e =
    (elim (is_due script d p) as (λ b. is_due script d p ≡ b → cond b (Some p) (first_due script d ps) ≡ None → (is_due script d p ≡ false) × (first_due script d ps ≡ None)) [
      | true ↦ λ _ h. absurd cc
      | false ↦ λ off h. (off, h)
    ]) refl e

at_rest : (has free up : Bool) → (has && (free && not up)) ≡ false → free ≡ true → (not has || (up && free)) ≡ true
at_rest false free up e is = refl
at_rest true true true e is = refl
at_rest true true false e is = absurd cc
at_rest true false up e is = absurd cc

free_if : (o : Option Hold) → ((w m : ℕ) → o ≡ held_by w m → ⊥) → is_none o ≡ true
free_if None none_has = refl
free_if (Some h) none_has = absurd (none_has h.worker h.moment refl)

rests : (script : Recipe) (d : Desk) (p : Pipe) → is_due script d p ≡ false → ((w m : ℕ) → HoldsPipe d w p m → ⊥) → is_at_rest script d p ≡ true
rests script d p e none_has = at_rest (has_pipe script.settings p) (is_free d p) (is_up_to_date script d p) e (free_if (slot d p).hold none_has)

all_rest : (script : Recipe) (d : Desk) (ps : List Pipe) → first_due script d ps ≡ None → ((p : Pipe) (w m : ℕ) → HoldsPipe d w p m → ⊥) → list_all (is_at_rest script d) ps ≡ true
all_rest script d [] e none_has = refl
all_rest script d (p ∷ ps) e none_has =
    let h = none_of script d p ps e in
    both_on (rests script d p h.0 (none_has p)) (all_rest script d ps h.1 none_has)

all_done : (n : ℕ) (ts : List TicketState) → first_waiting n ts ≡ None → ((k w : ℕ) → slice_get ts k ≡ Some (Out w) → ⊥) → list_all is_done ts ≡ true
all_done n [] e none_has = refl
all_done n (Waiting ∷ ts) e none_has = absurd cc
all_done n (Out w ∷ ts) e none_has = absurd (none_has 0 w refl)
all_done n (Done ∷ ts) e none_has = all_done (n + 1) ts e (λ k w h. none_has (suc k) w h)

-- a desk that is closed, at which nothing is due and of whose jobs nobody has one, is complete
settled : (script : Recipe) (d : Desk) → due script d ≡ None → ((n m : ℕ) (name : JobName) → HoldsJob script d n name m → ⊥) → is_settled script d ≡ true
settled script d e none_has =
    let h = first_none (first_due script d pipes) (first_waiting 1 d.tickets) e in
    both_on (all_rest script d pipes h.0 (λ p w m held. none_has w m (job.Pipe p) held)) (all_done 1 d.tickets h.1 (λ k w out. none_has w _ (job.Ticket (suc k)) (out, refl)))

-- ---- the journal

module _ (desk : DeskLock) (seats : ℕ) (journal : List Entry) (ps : List DeskKnown)
    (said : (p : DeskKnown) → Contains ps p → StartsWith journal p.seen × (borne worker_of p.number journal ≡ p.own))
    (done : (p : DeskKnown) → Contains ps p → IsFinished desk p)
    (others : (n : ℕ) → seats ≤ n → borne worker_of n journal ≡ [])
    (all : (n : ℕ) → n < seats → (p : DeskKnown) × Contains ps p × (p.number ≡ n)) where
  -- no worker has a job
  nothing_held : (n : ℕ) → (n < seats) ⊎ (seats ≤ n) → job_at desk.name.script n journal ≡ None
  nothing_held n (inr out) = ap (held (act_of desk.name.script) None) (others n out)
  nothing_held n (inl in_) =
      let a = all n in_ in
      ap (held (act_of desk.name.script) None) (subst (λ i. borne worker_of i journal ≡ a.0.own) a.2 (said a.0 a.1).1) ∙ (done a.0 a.1).free

  seen_by : (n : ℕ) → (n < seats) ⊎ (seats ≤ n) → n ≡ last_of 0 journal → 0 < seats → (p : DeskKnown) × Contains ps p × (journal ≡ p.seen)
  seen_by n (inr out) is some = absurd (nobody journal refl)
    where
      nobody : (es : List Entry) → es ≡ journal → ⊥
      nobody [] same = let none : n ≡ 0 = is ∙ ap (last_of 0) (sym same) in omega arith
      nobody (e ∷ es) same =
          not_empty e es (subst (λ i. borne worker_of i (e ∷ es) ≡ []) (is ∙ ap (last_of 0) (sym same)) (ap (borne worker_of n) same ∙ others n out))
  seen_by n (inl in_) is some =
      let a = all n in_ in
      let number : a.0.number ≡ last_of 0 journal = a.2 ∙ is in
      let s = said a.0 a.1 in
      let d = done a.0 a.1 in
      (a.0, a.1, whole 0 a.0.seen journal s.0 (subst (λ i. borne worker_of i journal ≡ borne worker_of i a.0.seen) number (s.1 ∙ sym d.is_own)))

  pub completes : Legal desk.name.script journal → 0 < seats → IsComplete desk.name.script journal
  completes legal some =
      let script = desk.name.script in
      let d = desk_of start journal in
      let p = seen_by (last_of 0 journal) (cases_lt (last_of 0 journal) seats) refl some in
      let f = done p.0 p.1 in
      let closed : d.closed ≡ true = ap (λ es. (desk_after es).closed) p.2 ∙ f.closed in
      let none_due : due script d ≡ None = ap (λ es. due script (desk_after es)) p.2 ∙ f.none_due in
      let none_has : (n m : ℕ) (name : JobName) → HoldsJob script d n name m → ⊥
      = λ n m name held. apart _ (sym (nothing_held n (cases_lt n seats)) ∙ (says_now script n journal legal name m).0 held) in
      both_on closed (both_on (eq-eqb d.steps (length script.steps) (all_made script start journal (λ (e : false ≡ true). absurd cc) legal closed)) (settled script d none_due none_has))
    where
      apart : (x : Line) → None ≡ Some x → ⊥
      apart x e = cc
