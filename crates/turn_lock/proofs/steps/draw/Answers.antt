use Rattle.std.proofs.Common.{rules, arith, ap, ◌∙◌, refl}
use Rattle.turn_lock.proofs.Turns.{draws}
use Rattle.turn_lock.proofs.steps.draw.Goals as goal

pub compare_exchange-requires : goal.compare_exchange-requires
compare_exchange-requires g c =
    let same = c.loop.invariant.1 in (
      search rules,
      search rules,
      draws g.T.Told.name g.T.Told.story g.T.Told.bearer g.T.Told.mark g.T.Told.most _ _ _ _ _ _
          (ap (λ m. m.0.live) same ∙ c.requires.idle.0) (ap (λ m. m.0.ticket) same ∙ c.requires.idle.1) refl (omega arith),
    )
