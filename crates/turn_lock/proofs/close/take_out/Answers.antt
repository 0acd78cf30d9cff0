use Rattle.std.proofs.Common.{◌≡◌, Some, subst}
use Rattle.turn_lock.specs.Ending.{IsLeft}
use Rattle.turn_lock.proofs.Joins.{ends}
use Rattle.turn_lock.proofs.Gathering.{slot_is, some_is}
use Rattle.turn_lock.proofs.close.take_out.Goals as goal

pub unreachable-requires : goal.unreachable-requires
unreachable-requires g c =
    let e = ends g.T.Told.name g.T.Told.story g.T.Told.bearer g.T.Told.mark g.T.Told.most _ _ _ _ _ _ c.requires.first c.requires.all c.close_with-closed.ensures.values.2 in
    let is : c.take-last.result ≡ Some e.0 = slot_is _ c.take-last.result e.0 c.take-last.ensures.value e.1 in c.in_default.not-Some e.0 is

pub returns : goal.returns
returns g c =
    let e = ends g.T.Told.name g.T.Told.story g.T.Told.bearer g.T.Told.mark g.T.Told.most _ _ _ _ _ _ c.requires.first c.requires.all c.close_with-closed.ensures.values.2 in
    let is = slot_is _ c.take-last.result e.0 c.take-last.ensures.value e.1 in
    subst (IsLeft g.T.Told.name g.T.Told.story g.T.Told.bearer (g.T.Told.name c.args.table.shared.key) c.args.seat.me.0) (some_is c.take-last.result e.0 c.in-Some.value is c.in-Some.is) e.2
