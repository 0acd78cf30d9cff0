-- what the lines so far have to do with the desk, and the steps that keep it
use Rattle.std.proofs.Common.{◌≡◌, ℕ, zero, suc, ◌+◌, ◌<◌, ◌≤◌, Bool, true, false, ◌&&◌, cond, List, [], ◌∷◌, ◌++◌, length, refl, sym, ap, subst, ◌∙◌, arith, Option, Some, None, ⊎_elim, length-append}
use Rattle.std.specs.Prelude.{slice_get, unwrap_or}
use Rattle.std.specs.List.{All, list_all}
use Rattle.std.specs.Option.{option_map_or}
use Rattle.std.proofs.lemmas.Bool.{cases_lt}
use Rattle.std.proofs.lemmas.List.Elements.{All-weaker}
use Rattle.std.proofs.lemmas.Option.{slice_get_within}
use Rattle.outside.specs.declared.job_name.JobName.{JobName}
use Rattle.outside.specs.declared.job_name.JobName.TheVariants as job
use Rattle.outside.specs.declared.job_name.Pipe.{Pipe}
use Rattle.edit_steps.specs.declared.step.Step.{Step}
use Rattle.edit_steps.specs.declared.step.Step.TheVariants as steps
use Rattle.edit_steps.specs.Changes.{is_change}
use Rattle.edit_steps.specs.Pipes.{has_pipe}
use Rattle.edit_steps.specs.Script.{Recipe, moment_of}
use Rattle.journal.specs.declared.desk.Slot.{Slot}
use Rattle.journal.specs.declared.desk.TicketState.{TicketState}
use Rattle.journal.specs.declared.desk.TicketState.TheVariants.{Waiting}
use Rattle.journal.specs.declared.entry.Entry.TheVariants.{Changed, Asked, Settled}
use Rattle.journal.specs.Tickets.{is_ask, is_settle, numbered, asked_moment}
use Rattle.journal.specs.Desk.{Desk, next, slot, held_by, NextIs, is_done, is_settled}
use Rattle.journal.specs.Lines.{Line, pipe_line, ticket_line}
use Rattle.journal.specs.Good.{moments, last_moment, ticket_lines, HaveNames, asked, IsAfter, Rises, IsReached, tickets_before, is_ticket_upto, is_within, front_at, IsSettledAt}
use Rattle.journal.proofs.DueLemmas.{rest-reached, settled-rest, settled-done}
use Rattle.journal.proofs.SlotLemmas.{by_number}
use Rattle.journal.proofs.LaterLemmas.{later_wider}
use Rattle.journal.proofs.StepLemmas.{change_asks, ask_changes, settle_is, moment_of-step, tickets_before-step}
use Rattle.journal.proofs.LineLemmas.{front_stays, front_all, within_from, upto_from, within_moment, within_ticket}

-- ---- what the lines so far have to do with the desk

-- the desk stands behind the first steps of the script
pub record Placed (script : Recipe) (made moment count : ℕ) : Type 0 where
  pub within : made ≤ length script.steps
  pub moment_is : moment ≡ moment_of script made
  pub count_is : count ≡ tickets_before script made

-- a job that was done is known, and no later than the desk
abbrev pub IsToldJob : Recipe → ℕ → ℕ → JobName → ℕ → Type 0
IsToldJob script now count (job.Pipe p) m = (has_pipe script.settings p ≡ true) × (m ≤ now)
IsToldJob script now count (job.Ticket t) m = (asked script t ≡ Some m) × (m ≤ now) × (t ≤ count)

abbrev pub IsTold : Recipe → ℕ → ℕ → Line → Type 0
IsTold script now count l = IsToldJob script now count l.job l.moment

-- how many lines a ticket has, as its state says
abbrev pub done_lines : Option TicketState → ℕ
done_lines state = option_map_or (λ s. cond (is_done s) 1 0) state 0

-- a job of the pipe that is out is one of the subject's, of a moment after the one that was published last
pub record IsHeld (script : Recipe) (p : Pipe) (now : ℕ) (published : Option ℕ) (m : ℕ) : Type 0 where
  pub has : has_pipe script.settings p ≡ true
  pub early : m ≤ now
  pub after : IsAfter script p published m

abbrev pub AreHeld : Recipe → Pipe → ℕ → Slot → Type 0
AreHeld script p now x = (w m : ℕ) → x.hold ≡ held_by w m → IsHeld script p now x.published m

pub record Told (script : Recipe) (d : Desk) (ls : List Line) : Type 0 where
  pub three : length d.slots ≡ 3
  pub place : Placed script d.steps d.moment (length d.tickets)
  pub known : All (IsTold script d.moment (length d.tickets)) ls
  pub last : (p : Pipe) → last_moment p ls ≡ (slot d p).published
  pub rises : (p : Pipe) → Rises script p None (moments p ls)
  pub held : (p : Pipe) → AreHeld script p d.moment (slot d p)
  pub tickets : (t : ℕ) → ticket_lines t ls ≡ done_lines (numbered d.tickets t)
  pub names : HaveNames ls
  pub settled : (n : ℕ) → n < d.steps → slice_get script.steps n ≡ Some steps.Settle → IsSettledAt script n ls

-- ---- one line more after a settle

-- the front up to a settle stays, where it has all lines only if the new one is not within
pub settled_more : (script : Recipe) (n : ℕ) (ls : List Line) (l : Line) → IsSettledAt script n ls
    → (front_at script n ls ≡ ls → is_within (moment_of script n) (tickets_before script n) l ≡ true → ⊥) → IsSettledAt script n (ls ++ l ∷ [])
settled_more script n ls l settled ended =
    let e = front_stays (moment_of script n) (tickets_before script n) ls l ended in
    record {
      pipes = λ p has. let r = settled.pipes p has in record {
        moment = r.moment;
        is_last = ap (last_moment p) e ∙ r.is_last;
        none_later = r.none_later;
      };
      tickets = λ t low high. ap (ticket_lines t) e ∙ settled.tickets t low high;
    }

some_same : (m n : ℕ) → ◌≡◌ {A = Option ℕ} (Some m) (Some n) → m ≡ n
some_same m n e = ap (λ o. unwrap_or o 0) e

-- no line of a pipe comes that a settle would have waited for
pub no_more_pipe : (script : Recipe) (d : Desk) (ls : List Line) (p : Pipe) (m n : ℕ) → Told script d ls
    → IsHeld script p d.moment (slot d p).published m → IsSettledAt script n ls
    → front_at script n ls ≡ ls → is_within (moment_of script n) (tickets_before script n) (pipe_line p m) ≡ true → ⊥
no_more_pipe script d ls p m n told held settled all within =
    let r = settled.pipes p held.has in
    let e : (slot d p).published ≡ Some r.moment = sym (told.last p) ∙ ap (last_moment p) (sym all) ∙ r.is_last in
    let after : IsAfter script p (Some r.moment) m = subst (λ o. IsAfter script p o m) e held.after in
    let few = within_moment (moment_of script n) (tickets_before script n) (pipe_line p m) within in
    r.none_later (later_wider script p r.moment r.moment m (moment_of script n) (omega arith) few after.1)

-- no second line of a ticket comes
pub no_more_ticket : (script : Recipe) (ls : List Line) (t n : ℕ) → 1 ≤ t → ticket_lines t ls ≡ 0 → IsSettledAt script n ls
    → front_at script n ls ≡ ls → is_within (moment_of script n) (tickets_before script n) (ticket_line script t) ≡ true → ⊥
no_more_ticket script ls t n low none_yet settled all within =
    let one = settled.tickets t low (within_ticket (moment_of script n) (tickets_before script n) t (asked_moment script t) within) in
    let same = ap (ticket_lines t) all in
    omega (arith, one, same, none_yet)

-- ---- entries that add a step

told_later : (script : Recipe) (now then count more : ℕ) (ls : List Line) → now ≤ then → count ≤ more → All (IsTold script now count) ls
    → All (IsTold script then more) ls
told_later script now then count more ls later_on grown known = All-weaker (IsTold script now count) (IsTold script then more) (λ l is. each l.job l.moment is) ls known
  where
    each : (name : JobName) (m : ℕ) → IsToldJob script now count name m → IsToldJob script then more name m
    each (job.Pipe p) m is = (is.0, omega (arith, is.1))
    each (job.Ticket t) m is = (is.0, omega (arith, is.1), omega (arith, is.2))

placed_more : (script : Recipe) (made moment count : ℕ) (s : Step) (m c : ℕ) → Placed script made moment count → slice_get script.steps made ≡ Some s
    → m ≡ moment + cond (is_change s) 1 0 → c ≡ count + cond (is_ask s) 1 0 → Placed script (made + 1) m c
placed_more script made moment count s m c placed stands change ask = record {
  within = omega (arith, slice_get_within script.steps made s stands);
  moment_is = omega (arith, moment_of-step script made s stands, change, placed.moment_is);
  count_is = omega (arith, tickets_before-step script made s stands, ask, placed.count_is);
}

-- one step more, of whichever sort
told_step : (script : Recipe) (d : Desk) (ls : List Line) (m : ℕ) (ts : List TicketState) → Told script d ls → Placed script (d.steps + 1) m (length ts)
    → d.moment ≤ m → length d.tickets ≤ length ts → ((t : ℕ) → done_lines (numbered ts t) ≡ done_lines (numbered d.tickets t))
    → (slice_get script.steps d.steps ≡ Some steps.Settle → IsSettledAt script d.steps ls)
    → Told script (record d { steps = d.steps + 1; moment = m; tickets = ts }) ls
told_step script d ls m ts told placed later_on grown done here = record {
  three = told.three;
  place = placed;
  known = told_later script d.moment m (length d.tickets) (length ts) ls later_on grown told.known;
  last = told.last;
  rises = told.rises;
  held = λ p w k holds. let h = told.held p w k holds in record { has = h.has; early = omega (arith, h.early, later_on); after = h.after };
  tickets = λ t. told.tickets t ∙ sym (done t);
  names = told.names;
  settled = λ n less at. earlier_or n less at;
}
  where
    earlier_or : (n : ℕ) → n < d.steps + 1 → slice_get script.steps n ≡ Some steps.Settle → IsSettledAt script n ls
    earlier_or n less at =
        by_number n d.steps (IsSettledAt script n ls)
        (λ e. subst (λ k. IsSettledAt script k ls) (sym e) (here (ap (slice_get script.steps) (sym e) ∙ at)))
        (λ differ. told.settled n (below n less differ) at)
      where
        below : (k : ℕ) → k < d.steps + 1 → (k ≡ d.steps → ⊥) → k < d.steps
        below k less differ = ⊎_elim (λ (h : k < d.steps). h) (λ (h : d.steps ≤ k). absurd (differ (omega (arith, h, less)))) (cases_lt k d.steps)

some_step : (s r : Step) → ◌≡◌ {A = Option Step} (Some s) (Some r) → s ≡ r
some_step s r e = ap (λ o. unwrap_or o s) e

false_true : false ≡ true → ⊥
false_true e = cc

-- a step of another sort is no settle
no_settle : (sort : Step → Bool) (script : Recipe) (d : Desk) → sort steps.Settle ≡ false → NextIs sort script d
    → slice_get script.steps d.steps ≡ Some steps.Settle → ⊥
no_settle sort script d none next_is at = false_true (sym none ∙ ap sort (sym (some_step next_is.step steps.Settle (sym next_is.stands ∙ at))) ∙ next_is.is_sort)

pub one_if : (b : Bool) → b ≡ true → cond {A = ℕ} b 1 0 ≡ 1
one_if b e = ap (λ x. cond {A = ℕ} x 1 0) e

pub none_if : (b : Bool) → b ≡ false → cond {A = ℕ} b 1 0 ≡ 0
none_if b e = ap (λ x. cond {A = ℕ} x 1 0) e

pub told_changed : (script : Recipe) (d : Desk) (ls : List Line) (m : ℕ) → Told script d ls → NextIs is_change script d → m ≡ d.moment + 1
    → Told script (next d (Changed m)) ls
told_changed script d ls m told may is =
    let one = one_if (is_change may.step) may.is_sort in
    let none = none_if (is_ask may.step) (change_asks may.step may.is_sort) in
    told_step script d ls m d.tickets told
    (placed_more script d.steps d.moment (length d.tickets) may.step m (length d.tickets) told.place may.stands (omega (arith, is, one)) (omega (arith, none)))
    (omega (arith, is)) (omega arith) (λ t. refl) (λ at. absurd (no_settle is_change script d refl may at))

done_pushed : (ts : List TicketState) (t : ℕ) → done_lines (numbered (ts ++ Waiting ∷ []) t) ≡ done_lines (numbered ts t)
done_pushed ts zero = refl
done_pushed ts (suc k) = each ts k
  where
    each : (xs : List TicketState) (j : ℕ) → done_lines (slice_get (xs ++ Waiting ∷ []) j) ≡ done_lines (slice_get xs j)
    each [] zero = refl
    each [] (suc j) = refl
    each (x ∷ xs) zero = refl
    each (x ∷ xs) (suc j) = each xs j

pub told_asked : (script : Recipe) (d : Desk) (ls : List Line) (t m : ℕ) → Told script d ls → NextIs is_ask script d → Told script (next d (Asked t m)) ls
told_asked script d ls t m told may =
    let one = one_if (is_ask may.step) may.is_sort in
    let none = none_if (is_change may.step) (ask_changes may.step may.is_sort) in
    let grown = length-append d.tickets (Waiting ∷ []) in
    told_step script d ls d.moment (d.tickets ++ Waiting ∷ []) told
    (placed_more script d.steps d.moment (length d.tickets) may.step d.moment (length (d.tickets ++ Waiting ∷ [])) told.place may.stands
    (omega (arith, none)) (omega (arith, one, grown)))
    (omega arith) (omega (arith, grown)) (λ u. done_pushed d.tickets u) (λ at. absurd (no_settle is_ask script d refl may at))

-- ---- a settled desk

all_done : (ts : List TicketState) (t : ℕ) → list_all is_done ts ≡ true → 1 ≤ t → t ≤ length ts → done_lines (numbered ts t) ≡ 1
all_done ts zero all low high = absurd (omega (arith, low))
all_done ts (suc k) all low high = each ts k all (omega (arith, high))
  where
    each : (xs : List TicketState) (j : ℕ) → list_all is_done xs ≡ true → j < length xs → done_lines (slice_get xs j) ≡ 1
    each [] j done less = absurd (omega (arith, less))
    each (x ∷ xs) zero done less = one_if (is_done x) (first (is_done x) (list_all is_done xs) done)
      where
        first : (a b : Bool) → (a && b) ≡ true → a ≡ true
        first true b e = refl
        first false b e = cc
    each (x ∷ xs) (suc j) done less = each xs j (rest (is_done x) (list_all is_done xs) done) (omega (arith, less))
      where
        rest : (a b : Bool) → (a && b) ≡ true → b ≡ true
        rest true b e = e
        rest false b e = cc

pub reached_now : (script : Recipe) (d : Desk) (ls : List Line) (p : Pipe) → Told script d ls → is_settled script d ≡ true
    → has_pipe script.settings p ≡ true → IsReached script p d.moment ls
reached_now script d ls p told settled has =
    let r = rest-reached script d p (settled-rest script d p settled) has in
    record { moment = r.moment; is_last = told.last p ∙ r.published; none_later = r.none_later }

pub tickets_now : (script : Recipe) (d : Desk) (ls : List Line) (t : ℕ) → Told script d ls → is_settled script d ≡ true → 1 ≤ t
    → t ≤ length d.tickets → ticket_lines t ls ≡ 1
tickets_now script d ls t told settled low high = told.tickets t ∙ all_done d.tickets t (settled-done script d settled) low high

-- all lines so far are within the moment and the tickets of the desk
all_within : (script : Recipe) (d : Desk) (ls : List Line) → Told script d ls → front_at script d.steps ls ≡ ls
all_within script d ls told =
    front_all (moment_of script d.steps) (tickets_before script d.steps) ls
    (All-weaker (IsTold script d.moment (length d.tickets)) (λ l. is_within (moment_of script d.steps) (tickets_before script d.steps) l ≡ true)
    (λ l is. within_from (moment_of script d.steps) (tickets_before script d.steps) l (early l.job l.moment is) (upto l.job l.moment is)) ls told.known)
  where
    early : (name : JobName) (m : ℕ) → IsToldJob script d.moment (length d.tickets) name m → m ≤ moment_of script d.steps
    early (job.Pipe p) m is = omega (arith, is.1, told.place.moment_is)
    early (job.Ticket t) m is = omega (arith, is.1, told.place.moment_is)

    upto : (name : JobName) (m : ℕ) → IsToldJob script d.moment (length d.tickets) name m → is_ticket_upto (tickets_before script d.steps) name ≡ true
    upto (job.Pipe p) m is = refl
    upto (job.Ticket t) m is = upto_from (tickets_before script d.steps) t (omega (arith, is.2, told.place.count_is))

settled_now : (script : Recipe) (d : Desk) (ls : List Line) → Told script d ls → is_settled script d ≡ true → IsSettledAt script d.steps ls
settled_now script d ls told settled =
    let all = all_within script d ls told in
    record {
      pipes = λ p has. subst (IsReached script p (moment_of script d.steps)) (sym all)
          (subst (λ m. IsReached script p m ls) told.place.moment_is (reached_now script d ls p told settled has));
      tickets = λ t low high. ap (ticket_lines t) all ∙ tickets_now script d ls t told settled low (omega (arith, high, told.place.count_is));
    }

pub told_settled : (script : Recipe) (d : Desk) (ls : List Line) → Told script d ls → NextIs is_settle script d → is_settled script d ≡ true
    → Told script (next d Settled) ls
told_settled script d ls told may settled =
    let is = settle_is may.step may.is_sort in
    let none = none_if (is_change may.step) (ap is_change is) in
    let no_ask = none_if (is_ask may.step) (ap is_ask is) in
    told_step script d ls d.moment d.tickets told
    (placed_more script d.steps d.moment (length d.tickets) may.step d.moment (length d.tickets) told.place may.stands (omega (arith, none)) (omega (arith, no_ask)))
    (omega arith) (omega arith) (λ t. refl) (λ at. settled_now script d ls told settled)
