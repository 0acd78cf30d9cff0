use Rattle.std.proofs.Common.{[], ◌∷◌, sym, subst}
use Rattle.dev_core.specs.Jobs.{back_entry}
use Rattle.desk.specs.Turns.{Began}
use Rattle.desk.proofs.TurnLemmas.{may_end, took_turn}
use Rattle.desk.proofs.StepLemmas.{entered_by}
use Rattle.desk.proofs.HoldLemmas.{subject_found, back_found, back_bears, back_holds}
use Rattle.desk.proofs.shared.SharedDesk.give_back.Goals as goal

pub give_back-requires-clause-subject : goal.give_back-requires-clause-subject
give_back-requires-clause-subject g c =
    let b = subst (Began c.args.self.now c.args.pass.now c.begin-turn.new.pass) (sym c.value.ensures.value) c.begin-turn.ensures in
    subject_found c.args.self.now c.args.pass.now c.begin-turn.new.pass c.value.result.now b c.args.job c.requires.holds

pub give_back-requires-clause-row : goal.give_back-requires-clause-row
give_back-requires-clause-row g c =
    let b = subst (Began c.args.self.now c.args.pass.now c.begin-turn.new.pass) (sym c.value.ensures.value) c.begin-turn.ensures in
    back_found c.args.self.now c.args.pass.now c.begin-turn.new.pass c.value.result.now b c.args.job c.requires.holds

pub end-requires : goal.end-requires
end-requires g c =
    let b = subst (Began c.args.self.now c.args.pass.now c.begin-turn.new.pass) (sym c.value.ensures.value) c.begin-turn.ensures in
    let e = back_entry c.args.job.name c.args.job.worker in
    may_end c.args.self.now c.args.pass.now c.begin-turn.new.pass c.value.result.now c.give_back.new.self (e ∷ []) b
    (entered_by c.value.result.now c.give_back.new.self e c.give_back.ensures) (back_bears c.args.job.name c.args.job.worker c.args.pass.now.number c.requires.holds.worker_is)

pub returns : goal.returns
returns g c =
    let b = subst (Began c.args.self.now c.args.pass.now c.begin-turn.new.pass) (sym c.value.ensures.value) c.begin-turn.ensures in
    let e = back_entry c.args.job.name c.args.job.worker in
    let t = took_turn c.args.self.now c.args.pass.now c.begin-turn.new.pass c.value.result.now c.give_back.new.self (e ∷ []) b
    (entered_by c.value.result.now c.give_back.new.self e c.give_back.ensures) (back_bears c.args.job.name c.args.job.worker c.args.pass.now.number c.requires.holds.worker_is) c.end.new.pass c.end.ensures in record {
      turn = t.turn;
      holds = back_holds c.args.self.now.name.script c.args.job.name c.args.job.worker c.args.pass.now c.end.new.pass t.turn;
      mark = t.mark;
      looks = t.looks;
      lock = t.idle;
      number = t.number;
    }
