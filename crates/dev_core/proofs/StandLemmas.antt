-- steps, moments, tickets and histories after one more entry
use Rattle.std.proofs.Common.{◌≡◌, ℕ, zero, suc, ◌+◌, ◌<◌, ◌≤◌, Bool, true, false, cond, List, [], ◌∷◌, ◌++◌, length, take, refl, sym, ap, ◌∙◌, arith, length-append, Some}
use Rattle.std.specs.Prelude.{slice_get}
use Rattle.std.proofs.lemmas.List.{take_more}
use Rattle.std.proofs.lemmas.List.Elements.{filter-append}
use Rattle.std.proofs.lemmas.Option.{slice_get_within, get_or_from_slice_get}
use Rattle.edit_steps.specs.declared.step.Step.{Step}
use Rattle.edit_steps.specs.declared.step.Step.TheVariants as steps
use Rattle.edit_steps.specs.Changes.{Histories, is_change, changes_of}
use Rattle.edit_steps.specs.Script.{Recipe, behind, moment_of, changes}
use Rattle.edit_steps.proofs.ChangeLemmas.{histories_behind-same}
use Rattle.edit_steps.proofs.KeptLemmas.{behind-more}
use Rattle.journal.specs.declared.entry.Entry.{Entry}
use Rattle.journal.specs.declared.entry.Entry.TheVariants.{Changed, Asked, Settled, Closed, Took, Restarted, Published, GaveBack, TicketTook, TicketDone, TicketBack, Stopped}
use Rattle.journal.specs.declared.asking.Ask.{Ask}
use Rattle.journal.specs.Tickets.{is_ask, is_settle, moment_behind, asked_by, asks_from}
use Rattle.journal.specs.Desk.{Desk, next, May, NextIs}
use Rattle.journal.proofs.AskLemmas.{changes_front}
use Rattle.journal.proofs.OwnLemmas.{slots-next}
use Rattle.dev_core.specs.DeskState.{Stands}
use Rattle.dev_core.specs.Subject.{SubjectSeen}
use Rattle.dev_core.proofs.RoomLemmas.{tickets_next, tickets_kept}

-- ---- sorts of steps

ask_no_change : (s : Step) → is_ask s ≡ true → is_change s ≡ false
ask_no_change (steps.Edit edit) e = cc
ask_no_change steps.Undo e = cc
ask_no_change steps.Redo e = cc
ask_no_change (steps.View view) e = cc
ask_no_change (steps.Second view) e = cc
ask_no_change (steps.Export size depth) e = refl
ask_no_change (steps.Thumbnail size) e = refl
ask_no_change steps.Settle e = cc

settle_no_change : (s : Step) → is_settle s ≡ true → is_change s ≡ false
settle_no_change (steps.Edit edit) e = cc
settle_no_change steps.Undo e = cc
settle_no_change steps.Redo e = cc
settle_no_change (steps.View view) e = cc
settle_no_change (steps.Second view) e = cc
settle_no_change (steps.Export size depth) e = cc
settle_no_change (steps.Thumbnail size) e = cc
settle_no_change steps.Settle e = refl

settle_no_ask : (s : Step) → is_settle s ≡ true → is_ask s ≡ false
settle_no_ask (steps.Edit edit) e = cc
settle_no_ask steps.Undo e = cc
settle_no_ask steps.Redo e = cc
settle_no_ask (steps.View view) e = cc
settle_no_ask (steps.Second view) e = cc
settle_no_ask (steps.Export size depth) e = cc
settle_no_ask (steps.Thumbnail size) e = cc
settle_no_ask steps.Settle e = refl

not_both : (a b : Bool) → (a ≡ true → b ≡ false) → b ≡ true → a ≡ false
not_both true b differ e = absurd (true_no_false b (differ refl) e)
  where
    true_no_false : (b : Bool) → b ≡ false → b ≡ true → ⊥
    true_no_false b off on = let same : true ≡ false = sym on ∙ off in cc
not_both false b differ e = refl

-- ---- one step more

step_more : (xs : List Step) (k : ℕ) (x : Step) → slice_get xs k ≡ Some x → take (k + 1) xs ≡ take k xs ++ x ∷ []
step_more xs k x stands = take_more xs k x (slice_get_within xs k x stands) ∙ ap (λ y. take k xs ++ y ∷ []) (get_or_from_slice_get xs k x x stands)

-- how many changes are among the first steps
moment_more : (r : Recipe) (k : ℕ) (x : Step) → slice_get r.steps k ≡ Some x → moment_of r (k + 1) ≡ moment_of r k + length (cond (is_change x) (x ∷ []) [])
moment_more r k x stands =
    ap (λ ys. length (changes_of ys)) (step_more r.steps k x stands) ∙ ap length (filter-append is_change (take k r.steps) (x ∷ []))
    ∙ length-append (changes_of (take k r.steps)) (cond (is_change x) (x ∷ []) [])

asks_more : (m : ℕ) (xs : List Step) (x : Step) → length (asks_from m (xs ++ x ∷ [])) ≡ length (asks_from m xs) + (cond (is_ask x) 1 0)
asks_more m [] x =
    let ask : Ask = record { moment = m; step = x } in
    elim (is_ask x) as (λ b. length (cond b (ask ∷ []) [] ++ []) ≡ 0 + cond b 1 0) [ true ↦ refl | false ↦ refl ]
asks_more m (y ∷ xs) x =
    omega (
      arith,
      asks_more (moment_behind m y) xs x,
      length-append (asked_by m y) (asks_from (moment_behind m y) (xs ++ x ∷ [])),
      length-append (asked_by m y) (asks_from (moment_behind m y) xs),
    )

-- ---- what stands afterwards

-- the histories behind a step that is no change are those before it
pub behind_same : (r : Recipe) (k : ℕ) (x : Step) → slice_get r.steps k ≡ Some x → is_change x ≡ false → behind r (k + 1) ≡ behind r k
behind_same r k x stands other = behind-more r k x stands ∙ histories_behind-same (behind r k) x other

module _ (s : SubjectSeen) (count : ℕ) (d : Desk) (hs : Histories) (k : Stands s count d hs) where
  -- one more step, whose sort says how many changes and tickets it is
  stepped : (d' : Desk) (hs' : Histories) (x : Step) (changed asked : Bool) → slice_get s.script.steps d.steps ≡ Some x → is_change x ≡ changed → is_ask x ≡ asked
      → d'.steps ≡ d.steps + 1 → d'.moment ≡ d.moment + cond changed 1 0 → length d'.tickets ≡ length d.tickets + cond asked 1 0 → length d'.slots ≡ 3
      → hs' ≡ behind s.script (d.steps + 1) → Stands s count d' hs'
  stepped d' hs' x changed asked at changed_is asked_is more moment tickets three present =
      let within = slice_get_within s.script.steps d.steps x at in
      let count_changes : moment_of s.script (d.steps + 1) ≡ moment_of s.script d.steps + cond changed 1 0 =
      moment_more s.script d.steps x at ∙ ap (λ b. moment_of s.script d.steps + length (cond b (x ∷ []) [])) changed_is
      ∙ (elim changed as (λ b. moment_of s.script d.steps + length (cond b (x ∷ []) []) ≡ moment_of s.script d.steps + cond b 1 0) [ true ↦ refl | false ↦ refl ]) in
      let there : d'.moment ≡ moment_of s.script d'.steps = omega (arith, moment, k.moment, count_changes, ap (moment_of s.script) more) in
      let asks : length (asks_from 0 (take (d.steps + 1) s.script.steps)) ≡ length (asks_from 0 (take d.steps s.script.steps)) + cond asked 1 0 =
      ap (λ ys. length (asks_from 0 ys)) (step_more s.script.steps d.steps x at) ∙ asks_more 0 (take d.steps s.script.steps) x
      ∙ ap (λ b. length (asks_from 0 (take d.steps s.script.steps)) + cond b 1 0) asked_is in
      record {
        all = k.all;
        few = k.few;
        steps = omega (arith, within, k.all, more);
        moment = there;
        within = omega (arith, there, changes_front s.script.steps d'.steps);
        tickets = omega (arith, tickets, k.tickets, asks, ap (λ n. length (asks_from 0 (take n s.script.steps))) more);
        few_tickets = omega (arith, tickets, k.few_tickets, more, bit asked);
        slots = three;
        present = present ∙ ap (behind s.script) (sym more);
      }
    where
      bit : (b : Bool) → cond b 1 0 ≤ 1
      bit true = omega arith
      bit false = omega arith

  pub stands_changed : (m : ℕ) (hs' : Histories) → NextIs is_change s.script d → m ≡ d.moment + 1 → hs' ≡ behind s.script (d.steps + 1) → Stands s count (next d (Changed m)) hs'
  stands_changed m hs' at moment present =
      stepped (next d (Changed m)) hs' at.step true false at.stands at.is_sort (not_both (is_ask at.step) (is_change at.step) (ask_no_change at.step) at.is_sort)
      refl moment (omega arith) k.slots present

  pub stands_asked : (t m : ℕ) → NextIs is_ask s.script d → Stands s count (next d (Asked t m)) hs
  stands_asked t m at =
      let other = ask_no_change at.step at.is_sort in
      stepped (next d (Asked t m)) hs at.step false true at.stands other at.is_sort refl (omega arith) (length-append d.tickets _) k.slots
      (k.present ∙ sym (behind_same s.script d.steps at.step at.stands other))

  pub stands_settled : NextIs is_settle s.script d → Stands s count (next d Settled) hs
  stands_settled at =
      let other = settle_no_change at.step at.is_sort in
      stepped (next d Settled) hs at.step false false at.stands other (settle_no_ask at.step at.is_sort) refl (omega arith) (omega arith) k.slots
      (k.present ∙ sym (behind_same s.script d.steps at.step at.stands other))

  -- no step is made: pipes and tickets alone change
  pub stands_same : (d' : Desk) → d'.steps ≡ d.steps → d'.moment ≡ d.moment → length d'.tickets ≡ length d.tickets → length d'.slots ≡ 3 → Stands s count d' hs
  stands_same d' steps moment tickets three = record {
    all = k.all;
    few = k.few;
    steps = omega (arith, steps, k.steps);
    moment = moment ∙ k.moment ∙ ap (moment_of s.script) (sym steps);
    within = omega (arith, moment, k.within);
    tickets = tickets ∙ k.tickets ∙ ap (λ n. length (asks_from 0 (take n s.script.steps))) (sym steps);
    few_tickets = omega (arith, tickets, k.few_tickets, steps);
    slots = three;
    present = k.present ∙ ap (behind s.script) (sym steps);
  }
