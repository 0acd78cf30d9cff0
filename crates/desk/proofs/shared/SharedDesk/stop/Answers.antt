use Rattle.std.proofs.Common.{sym, subst}
use Rattle.dev_core.specs.DeskState.{now}
use Rattle.desk.specs.Turns.{Entered, Began}
use Rattle.desk.specs.Stops.{stop_adds}
use Rattle.desk.proofs.TurnLemmas.{may_end}
use Rattle.desk.proofs.HoldLemmas.{stop_bears, stop_holds}
use Rattle.desk.proofs.EditLemmas.{stop_turn}
use Rattle.desk.proofs.shared.SharedDesk.stop.Goals as goal

pub end-requires : goal.end-requires
end-requires g c =
    let b = subst (Began c.args.self.now c.args.pass.now c.begin-turn.new.pass) (sym c.value.ensures.value) c.begin-turn.ensures in
    let before = (now c.value.result.now).stopped in
    let e = subst (λ n. Entered c.value.result.now c.stop_desk.new.state (stop_adds n before)) c.number-worker.ensures.number c.stop_desk.ensures in
    may_end c.args.self.now c.args.pass.now c.begin-turn.new.pass c.value.result.now c.stop_desk.new.state (stop_adds c.args.pass.now.number before) b e (stop_bears c.args.pass.now.number before)

pub returns : goal.returns
returns g c =
    let b = subst (Began c.args.self.now c.args.pass.now c.begin-turn.new.pass) (sym c.value.ensures.value) c.begin-turn.ensures in
    let before = (now c.value.result.now).stopped in
    let e = subst (λ n. Entered c.value.result.now c.stop_desk.new.state (stop_adds n before)) c.number-worker.ensures.number c.stop_desk.ensures in
    let t = stop_turn c.args.self.now c.args.pass.now c.begin-turn.new.pass c.end.new.pass c.value.result.now c.stop_desk.new.state b e c.end.ensures in record {
      turn = t.1;
      holds = stop_holds c.args.self.now.name.script c.args.pass.now.number before c.args.pass.now c.end.new.pass t.0.turn;
      mark = t.0.mark;
      looks = t.0.looks;
      lock = t.0.idle;
      number = t.0.number;
    }
