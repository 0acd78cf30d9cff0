use Rattle.std.proofs.Common.{sym, subst}
use Rattle.desk.specs.Turns.{MayEnd, Ended}
use Rattle.desk.proofs.TurnLemmas.{ends_bear, ends_rise}
use Rattle.desk.proofs.shared.SharedDesk.end.Goals as goal

pub give-requires-clause-own : goal.give-requires-clause-own
give-requires-clause-own c =
    let m = subst (MayEnd c.args.self.now c.args.pass.now) (sym c.value.ensures.value) c.requires in
    ends_bear c.args.self.now c.args.pass.now c.value.result.now m

pub give-requires-clause-mark : goal.give-requires-clause-mark
give-requires-clause-mark c =
    let m = subst (MayEnd c.args.self.now c.args.pass.now) (sym c.value.ensures.value) c.requires in
    ends_rise c.args.self.now c.args.pass.now c.value.result.now m c.journal.ensures.legal

pub returns : goal.returns
returns c =
    let m = subst (MayEnd c.args.self.now c.args.pass.now) (sym c.value.ensures.value) c.requires in
    subst (Ended c.args.pass.now c.give.new.pass) c.value.ensures.value (record {
      gave = c.give.ensures;
      rises = ends_rise c.args.self.now c.args.pass.now c.value.result.now m c.journal.ensures.legal;
    })
