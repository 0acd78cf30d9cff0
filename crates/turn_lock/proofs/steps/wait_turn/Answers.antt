use Rattle.std.proofs.Common.{rules, ap, ◌∙◌}
use Rattle.turn_lock.proofs.Turns.{looks}
use Rattle.turn_lock.proofs.steps.wait_turn.Goals as goal

pub load-serving-requires : goal.load-serving-requires
load-serving-requires g c =
    let same = c.loop.invariant.1 in (
      search rules,
      search rules,
      looks g.T.Told.name g.T.Told.story g.T.Told.bearer g.T.Told.mark g.T.Told.most _ _ _ _ c.args.ticket
          (ap (λ m. m.0.live) same ∙ c.requires.waits.0) (ap (λ m. m.0.ticket) same ∙ c.requires.waits.2) (ap (λ m. m.0.out) same ∙ c.requires.waits.1),
    )
