-- one turn, from its beginning to its end
use Rattle.std.proofs.Common.{◌≡◌, ◌≤◌, List, [], ◌∷◌, ◌++◌, refl, sym, ap, subst, ◌∙◌, arith}
use Rattle.edit_steps.specs.Script.{Recipe}
use Rattle.journal.specs.declared.entry.Entry.{Entry}
use Rattle.journal.specs.declared.entry.Entry.TheVariants.{Changed, Asked, Settled, Closed, Took, Restarted, Published, GaveBack, TicketTook, TicketDone, TicketBack, Stopped}
use Rattle.journal.specs.Desk.{Desk, start, next, desk_of, May, Legal, LegalFrom}
use Rattle.journal.specs.Own.{worker_of}
use Rattle.turn_lock.specs.Known.{IsIdle}
use Rattle.turn_lock.specs.Story.{added, AllBear}
use Rattle.turn_lock.proofs.Stories.{added_bear}
use Rattle.turn_lock.proofs.Turning.{turned, turned_idle}
use Rattle.dev_core.specs.DeskState.{DeskSeen}
use Rattle.desk.specs.Passes.{DeskLock, DeskKnown}
use Rattle.desk.specs.Turns.{desk_after, OneTurn, Found, KeepsLooks, Entered, Began, MayEnd, Ended}

-- ---- the moment of a desk doesn't fall

pub desk_of-append : (d : Desk) (xs ys : List Entry) → desk_of d (xs ++ ys) ≡ desk_of (desk_of d xs) ys
desk_of-append d [] ys = refl
desk_of-append d (x ∷ xs) ys = desk_of-append (next d x) xs ys

legal_rest : (script : Recipe) (d : Desk) (xs ys : List Entry) → LegalFrom script d (xs ++ ys) → LegalFrom script (desk_of d xs) ys
legal_rest script d [] ys legal = legal
legal_rest script d (x ∷ xs) ys legal = legal_rest script (next d x) xs ys legal.1

next_rises : (script : Recipe) (d : Desk) (e : Entry) → May script d e → d.moment ≤ (next d e).moment
next_rises script d (Changed m) may = omega (arith, may.1)
next_rises script d (Asked t m) may = omega arith
next_rises script d Settled may = omega arith
next_rises script d Closed may = omega arith
next_rises script d (Took p w m) may = omega arith
next_rises script d (Restarted p w m) may = omega arith
next_rises script d (Published p w m) may = omega arith
next_rises script d (GaveBack p w) may = omega arith
next_rises script d (TicketTook t w) may = omega arith
next_rises script d (TicketDone t w) may = omega arith
next_rises script d (TicketBack t w) may = omega arith
next_rises script d (Stopped w) may = omega arith

legal_rises : (script : Recipe) (d : Desk) (es : List Entry) → LegalFrom script d es → d.moment ≤ (desk_of d es).moment
legal_rises script d [] legal = omega arith
legal_rises script d (e ∷ es) legal = omega (arith, next_rises script d e legal.0, legal_rises script (next d e) es legal.1)

-- nor under the entries of a turn
pub moment_rises : (script : Recipe) (before after more : List Entry) → after ≡ before ++ more → Legal script after → (desk_after before).moment ≤ (desk_after after).moment
moment_rises script before after more grew legal =
    subst (λ (d : Desk). (desk_after before).moment ≤ d.moment) (sym (ap desk_after grew ∙ desk_of-append start before more))
    (legal_rises script (desk_after before) more (legal_rest script start before more (subst (Legal script) grew legal)))

-- ---- what is given back

pub ends_bear : (desk : DeskLock) (mid : DeskKnown) (after : DeskSeen) → MayEnd desk mid after → AllBear worker_of mid.number (added mid.seen after.journal)
ends_bear desk mid after m = added_bear worker_of mid.number mid.seen after.journal m.more m.grew m.bear

pub ends_rise : (desk : DeskLock) (mid : DeskKnown) (after : DeskSeen) → MayEnd desk mid after → Legal after.subject.script after.journal → mid.mark ≤ (desk_after after.journal).moment
ends_rise desk mid after m legal =
    let rises = moment_rises after.subject.script mid.seen after.journal m.more m.grew legal in
    let mark = m.mark in omega (arith, rises, mark)

-- ---- a whole turn

-- what each call says of its turn
pub record TookTurn (desk : DeskLock) (old new : DeskKnown) (more : List Entry) : Type 0 where
  pub turn : OneTurn old new more
  pub mark : new.mark ≡ (desk_after new.seen).moment
  pub looks : KeepsLooks old new
  pub idle : IsIdle desk new
  pub number : new.number ≡ old.number

module _ (desk : DeskLock) (old mid : DeskKnown) (found after : DeskSeen) (more : List Entry) (b : Began desk old mid found) (e : Entered found after more) (bear : AllBear worker_of old.number more) where
  pub may_end : MayEnd desk mid after
  may_end = record {
    is_of = record {
      lock_is = ap (λ p. p.lock) b.took ∙ b.idle.is_of.lock_is;
      name_is = ap (λ p. p.name) b.took ∙ b.idle.is_of.name_is;
    };
    out = ap (λ p. p.out) b.took;
    subject = e.subject ∙ b.subject;
    mark = ap (λ p. p.mark) b.took ∙ ap (λ s. (desk_after s).moment) (sym (ap (λ p. p.seen) b.took));
    more = more;
    grew = e.journal ∙ ap (λ s. s ++ more) (sym (ap (λ p. p.seen) b.took));
    bear = subst (λ n. AllBear worker_of n more) (sym (ap (λ p. p.number) b.took)) bear;
  }

  pub took_turn : (new : DeskKnown) → Ended mid new after → TookTurn desk old new more
  took_turn new ended =
      let marked : mid.mark ≡ (desk_after found.journal).moment = ap (λ p. p.mark) b.took in
      let rises : (desk_after found.journal).moment ≤ (desk_after after.journal).moment = omega (arith, marked, ended.rises) in
      let t : OneTurn old new more = turned worker_of old mid new found.journal after.journal more (desk_after found.journal).moment (desk_after after.journal).moment b.idle.waits b.took b.starts b.owned b.rose ended.gave
      e.journal bear rises in record {
        turn = t;
        mark = ap (λ p. p.mark) ended.gave ∙ ap (λ s. (desk_after s).moment) (sym (ap (λ p. p.seen) ended.gave));
        looks = record { loads = ap (λ p. p.loads) t.pass; loaded = ap (λ p. p.loaded) t.pass };
        idle = turned_idle worker_of desk old new more b.idle t;
        number = ap (λ p. p.number) t.pass;
      }

  -- of the desk that it found
  pub found_so : (new : DeskKnown) (IsSo : Desk → Type 0) → Ended mid new after → IsSo (desk_after found.journal) → Found new.seen more IsSo
  found_so new IsSo ended is = record { found = found.journal; grew = ap (λ p. p.seen) ended.gave ∙ e.journal; is_so = is }
