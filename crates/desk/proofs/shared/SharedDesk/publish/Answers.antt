use Rattle.std.proofs.Common.{[], ◌∷◌, sym, subst}
use Rattle.dev_core.specs.Jobs.{done_entry}
use Rattle.desk.specs.Turns.{Began}
use Rattle.desk.proofs.TurnLemmas.{may_end, took_turn}
use Rattle.desk.proofs.StepLemmas.{entered_by}
use Rattle.desk.proofs.HoldLemmas.{subject_found, done_found, done_bears, done_holds}
use Rattle.desk.proofs.shared.SharedDesk.publish.Goals as goal

pub publish-requires-clause-subject : goal.publish-requires-clause-subject
publish-requires-clause-subject g c =
    let b = subst (Began c.args.self.now c.args.pass.now c.begin-turn.new.pass) (sym c.value.ensures.value) c.begin-turn.ensures in
    subject_found c.args.self.now c.args.pass.now c.begin-turn.new.pass c.value.result.now b c.args.job c.requires.holds

pub publish-requires-clause-row : goal.publish-requires-clause-row
publish-requires-clause-row g c =
    let b = subst (Began c.args.self.now c.args.pass.now c.begin-turn.new.pass) (sym c.value.ensures.value) c.begin-turn.ensures in
    done_found c.args.self.now c.args.pass.now c.begin-turn.new.pass c.value.result.now b c.args.job c.requires.holds

pub end-requires : goal.end-requires
end-requires g c =
    let b = subst (Began c.args.self.now c.args.pass.now c.begin-turn.new.pass) (sym c.value.ensures.value) c.begin-turn.ensures in
    let e = done_entry c.args.job.name c.args.job.worker c.args.job.moment in
    may_end c.args.self.now c.args.pass.now c.begin-turn.new.pass c.value.result.now c.publish.new.self (e ∷ []) b
    (entered_by c.value.result.now c.publish.new.self e c.publish.ensures) (done_bears c.args.job.name c.args.job.worker c.args.job.moment c.args.pass.now.number c.requires.holds.worker_is)

pub returns : goal.returns
returns g c =
    let b = subst (Began c.args.self.now c.args.pass.now c.begin-turn.new.pass) (sym c.value.ensures.value) c.begin-turn.ensures in
    let e = done_entry c.args.job.name c.args.job.worker c.args.job.moment in
    let t = took_turn c.args.self.now c.args.pass.now c.begin-turn.new.pass c.value.result.now c.publish.new.self (e ∷ []) b
    (entered_by c.value.result.now c.publish.new.self e c.publish.ensures) (done_bears c.args.job.name c.args.job.worker c.args.job.moment c.args.pass.now.number c.requires.holds.worker_is) c.end.new.pass c.end.ensures in record {
      turn = t.turn;
      holds = done_holds c.args.self.now.name.script c.args.job.name c.args.job.worker c.args.job.moment c.args.pass.now c.end.new.pass t.turn;
      mark = t.mark;
      looks = t.looks;
      lock = t.idle;
      number = t.number;
    }
