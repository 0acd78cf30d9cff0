use Rattle.std.proofs.Common.{ℕ, sym, subst}
use Rattle.std.specs.Prelude.{IfSome}
use Rattle.journal.specs.Desk.{IsIdle}
use Rattle.dev_core.specs.DeskState.{now}
use Rattle.desk.specs.Turns.{Began}
use Rattle.desk.specs.Given.{found_job, taken, IsGivenAt}
use Rattle.desk.proofs.TurnLemmas.{may_end}
use Rattle.desk.proofs.HoldLemmas.{idle_found}
use Rattle.desk.proofs.GivenLemmas.{taken_bears, poll_turn}
use Rattle.desk.proofs.shared.SharedDesk.poll_job.Goals as goal

pub next_due-answer-requires : goal.next_due-answer-requires
next_due-answer-requires g c =
    let b = subst (Began c.args.self.now c.args.pass.now c.begin-turn.new.pass) (sym c.value.ensures.value) c.begin-turn.ensures in
    subst (IsIdle (now c.value.result.now)) (sym c.number-worker.ensures.number) (idle_found c.args.self.now c.args.pass.now c.begin-turn.new.pass c.value.result.now b c.requires.free)

pub end-requires : goal.end-requires
end-requires g c =
    let b = subst (Began c.args.self.now c.args.pass.now c.begin-turn.new.pass) (sym c.value.ensures.value) c.begin-turn.ensures in
    let o = found_job c.next_due-answer.result in
    let given = subst (λ (n : ℕ). IfSome o (IsGivenAt c.value.result.now.subject n (now c.value.result.now).moment)) c.number-worker.ensures.number c.next_due-answer.ensures.given in
    may_end c.args.self.now c.args.pass.now c.begin-turn.new.pass c.value.result.now c.next_due-answer.new.state (taken o) b c.next_due-answer.ensures.entered
    (taken_bears c.value.result.now.subject c.args.pass.now.number (now c.value.result.now).moment o given)

pub returns : goal.returns
returns g c =
    let b = subst (Began c.args.self.now c.args.pass.now c.begin-turn.new.pass) (sym c.value.ensures.value) c.begin-turn.ensures in
    let o = found_job c.next_due-answer.result in
    let given = subst (λ (n : ℕ). IfSome o (IsGivenAt c.value.result.now.subject n (now c.value.result.now).moment)) c.number-worker.ensures.number c.next_due-answer.ensures.given in
    let t = poll_turn c.args.self.now c.args.pass.now c.begin-turn.new.pass c.end.new.pass c.value.result.now c.next_due-answer.new.state c.next_due-answer.result b c.requires.free c.next_due-answer.ensures.entered given c.end.ensures
    c.next_due-answer.ensures.answer in record {
      turn = t.took.turn;
      answer = t.answer;
      given = t.gave.given;
      holds = t.gave.holds;
      mark = t.took.mark;
      looks = t.took.looks;
      lock = t.took.idle;
      number = t.took.number;
    }
