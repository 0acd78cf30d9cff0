-- a turn of the editor, and one that stops the desk
use Rattle.std.proofs.Common.{◌≡◌, Ok, Err, refl, sym, ap, subst}
use Rattle.std.specs.Prelude.{Result, IfOk}
use Rattle.std.specs.declared.alloc.AllocError.{AllocError}
use Rattle.journal.specs.Desk.{Desk}
use Rattle.dev_core.specs.Subject.{SubjectSeen}
use Rattle.dev_core.specs.DeskState.{DeskSeen, now}
use Rattle.desk.specs.declared.edited.Edited.{Edited}
use Rattle.desk.specs.Passes.{DeskLock, DeskKnown, holding}
use Rattle.desk.specs.Turns.{Found, Entered, Began, Ended}
use Rattle.desk.specs.Edits.{edited, edit_adds}
use Rattle.desk.specs.Stops.{stop_adds, StopTurn}
use Rattle.desk.proofs.TurnLemmas.{TookTurn, took_turn, found_so}
use Rattle.desk.proofs.HoldLemmas.{edit_bears, edit_holds, stop_bears}

-- what is said of a turn of the editor
pub record EditTurn (desk : DeskLock) (old new : DeskKnown) (r : Result Edited AllocError) : Type 0 where
  pub took : TookTurn desk old new (edit_adds new.mark r)
  pub answer : IfOk r (λ e. Found new.seen (edit_adds new.mark r) (λ d. e ≡ edited desk.name.script d))
  pub holds : holding desk.name.script new.own ≡ holding desk.name.script old.own

answer_so : (s : SubjectSeen) (desk : DeskLock) (found : DeskSeen) (new : DeskKnown) (r : Result Edited AllocError) → s ≡ desk.name
    → ((IsSo : Desk → Type 0) → IsSo (now found) → Found new.seen (edit_adds new.mark r) IsSo) → IfOk r (λ e. e ≡ edited s.script (now found))
    → IfOk r (λ e. Found new.seen (edit_adds new.mark r) (λ d. e ≡ edited desk.name.script d))
answer_so s desk found new (Ok e) same so is = so (λ d. e ≡ edited desk.name.script d) (subst (λ (x : SubjectSeen). e ≡ edited x.script (now found)) same is)
answer_so s desk found new (Err e) same so is = tt

pub edit_turn : (desk : DeskLock) (old mid new : DeskKnown) (found after : DeskSeen) (r : Result Edited AllocError) → Began desk old mid found → Entered found after (edit_adds (now after).moment r)
    → old.number ≡ 0 → Ended mid new after → IfOk r (λ e. e ≡ edited found.subject.script (now found)) → EditTurn desk old new r
edit_turn desk old mid new found after r b e editor ended is =
    let same : (now after).moment ≡ new.mark = sym (ap (λ p. p.mark) ended.gave) in
    let here = subst (λ m. Entered found after (edit_adds m r)) same e in
    let bear = edit_bears new.mark r old.number editor in
    let t = took_turn desk old mid found after (edit_adds new.mark r) b here bear new ended in record {
      took = t;
      answer = answer_so found.subject desk found new r b.subject (λ IsSo so. found_so desk old mid found after (edit_adds new.mark r) b here bear new IsSo ended so) is;
      holds = edit_holds desk.name.script new.mark r old new t.turn;
    }

pub stop_turn : (desk : DeskLock) (old mid new : DeskKnown) (found after : DeskSeen) (b : Began desk old mid found) (e : Entered found after (stop_adds old.number (now found).stopped)) → Ended mid new after
    → (TookTurn desk old new (stop_adds old.number (now found).stopped)) × StopTurn old new
stop_turn desk old mid new found after b e ended =
    let before = (now found).stopped in
    let bear = stop_bears old.number before in
    let t = took_turn desk old mid found after (stop_adds old.number before) b e bear new ended in (
      t,
      record {
        before = before;
        turn = t.turn;
        was = found_so desk old mid found after (stop_adds old.number before) b e bear new (λ d. d.stopped ≡ before) ended refl;
      },
    )
