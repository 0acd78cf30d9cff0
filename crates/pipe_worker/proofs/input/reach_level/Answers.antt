use Rattle.pipe_worker.proofs.Routing.{reached_after}
use Rattle.pipe_worker.proofs.input.reach_level.Goals as goal

pub returns-in-Some-clause-ok : goal.returns-in-Some-clause-ok
returns-in-Some-clause-ok g c =
    reached_after c.reach-in-Some.result _ _ _ _ _ _ _ _ c.in-Full.is c.in-Some.is c.in_ok-hold.ensures.turned c.in_ok-evict_one-in-Full.ensures.turned c.reach-in-Some.ensures.turned
