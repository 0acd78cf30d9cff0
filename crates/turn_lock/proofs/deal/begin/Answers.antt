use Rattle.std.proofs.Common.{rules, ap}
use Rattle.turn_lock.proofs.Turns.{looks}
use Rattle.turn_lock.proofs.deal.begin.Goals as goal

pub load-requires : goal.load-requires
load-requires g c = (search rules, search rules, looks g.T.Told.name g.T.Told.story g.T.Told.bearer g.T.Told.mark g.T.Told.most _ _ _ _ 0 (ap (λ m. m.0.live) c.requires.opener) (ap (λ m. m.0.ticket) c.requires.opener) (ap (λ m. m.0.out) c.requires.opener))
