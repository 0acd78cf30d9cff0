use Rattle.std.proofs.Common.{sym, subst}
use Rattle.dev_core.specs.DeskState.{now}
use Rattle.desk.specs.Turns.{Began}
use Rattle.desk.specs.Edits.{edit_adds}
use Rattle.desk.proofs.TurnLemmas.{may_end}
use Rattle.desk.proofs.HoldLemmas.{edit_bears}
use Rattle.desk.proofs.EditLemmas.{edit_turn}
use Rattle.desk.proofs.shared.SharedDesk.edit.Goals as goal

pub end-requires : goal.end-requires
end-requires g c =
    let b = subst (Began c.args.self.now c.args.pass.now c.begin-turn.new.pass) (sym c.value.ensures.value) c.begin-turn.ensures in
    may_end c.args.self.now c.args.pass.now c.begin-turn.new.pass c.value.result.now c.edit_desk-answer.new.state (edit_adds (now c.edit_desk-answer.new.state).moment c.edit_desk-answer.result) b
    c.edit_desk-answer.ensures.entered (edit_bears (now c.edit_desk-answer.new.state).moment c.edit_desk-answer.result c.args.pass.now.number c.requires.editor)

pub returns : goal.returns
returns g c =
    let b = subst (Began c.args.self.now c.args.pass.now c.begin-turn.new.pass) (sym c.value.ensures.value) c.begin-turn.ensures in
    let t = edit_turn c.args.self.now c.args.pass.now c.begin-turn.new.pass c.end.new.pass c.value.result.now c.edit_desk-answer.new.state c.edit_desk-answer.result b c.edit_desk-answer.ensures.entered
    c.requires.editor c.end.ensures c.edit_desk-answer.ensures.answer in record {
      turn = t.took.turn;
      answer = t.answer;
      holds = t.holds;
      mark = t.took.mark;
      looks = t.took.looks;
      lock = t.took.idle;
      number = t.took.number;
    }
