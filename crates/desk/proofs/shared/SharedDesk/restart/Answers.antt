use Rattle.std.proofs.Common.{sym, subst}
use Rattle.desk.specs.Turns.{Began}
use Rattle.desk.specs.Given.{restart_adds}
use Rattle.desk.proofs.TurnLemmas.{may_end}
use Rattle.desk.proofs.HoldLemmas.{subject_found, superseded_found}
use Rattle.desk.proofs.RestartLemmas.{restart_entered, restart_bears, restart_turn}
use Rattle.desk.proofs.shared.SharedDesk.restart.Goals as goal

pub restart-answer-requires-clause-subject : goal.restart-answer-requires-clause-subject
restart-answer-requires-clause-subject g c =
    let b = subst (Began c.args.self.now c.args.pass.now c.begin-turn.new.pass) (sym c.value.ensures.value) c.begin-turn.ensures in
    subject_found c.args.self.now c.args.pass.now c.begin-turn.new.pass c.value.result.now b c.args.job.now c.requires.holds

pub restart-answer-requires-clause-row : goal.restart-answer-requires-clause-row
restart-answer-requires-clause-row g c =
    let b = subst (Began c.args.self.now c.args.pass.now c.begin-turn.new.pass) (sym c.value.ensures.value) c.begin-turn.ensures in
    superseded_found c.args.self.now c.args.pass.now c.begin-turn.new.pass c.value.result.now b c.args.job.now c.requires.holds c.requires.later

pub end-requires : goal.end-requires
end-requires g c =
    let b = subst (Began c.args.self.now c.args.pass.now c.begin-turn.new.pass) (sym c.value.ensures.value) c.begin-turn.ensures in
    let r = c.restart-answer.ensures in
    may_end c.args.self.now c.args.pass.now c.begin-turn.new.pass c.value.result.now c.restart-answer.new.self (restart_adds c.restart-answer.new.job c.restart-answer.result) b
    (restart_entered c.value.result.now c.restart-answer.new.self c.args.job.now c.restart-answer.new.job c.restart-answer.result r.ok r.job r.err)
    (restart_bears c.value.result.now c.restart-answer.new.self c.args.job.now c.restart-answer.new.job c.restart-answer.result c.args.pass.now.number c.requires.holds.worker_is r.job r.err)

pub returns : goal.returns
returns g c =
    let b = subst (Began c.args.self.now c.args.pass.now c.begin-turn.new.pass) (sym c.value.ensures.value) c.begin-turn.ensures in
    let r = c.restart-answer.ensures in
    let t = restart_turn c.args.self.now c.args.pass.now c.begin-turn.new.pass c.end.new.pass c.value.result.now c.restart-answer.new.self c.args.job.now c.restart-answer.new.job c.restart-answer.result b c.requires.holds c.requires.later r.ok r.job r.err c.end.ensures in record {
      turn = t.took.turn;
      job = t.job;
      moment = t.moment;
      rises = t.rises;
      same = t.same;
      holds = t.holds;
      mark = t.took.mark;
      looks = t.took.looks;
      lock = t.took.idle;
      number = t.took.number;
    }
