use Rattle.std.proofs.Common.{rules}
use Rattle.turn_lock.proofs.Turns.{reads}
use Rattle.turn_lock.proofs.lock.TurnLock.mark.Goals as goal

pub load-requires : goal.load-requires
load-requires g c = (search rules, search rules, reads g.T.Told.name g.T.Told.story g.T.Told.bearer g.T.Told.mark g.T.Told.most _ _ _ _ c.pass.invariant.live)
