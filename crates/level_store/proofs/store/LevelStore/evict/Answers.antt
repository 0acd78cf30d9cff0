use Rattle.std.proofs.Common.{◌<◌, None, sym, ap, arith, length}
use Rattle.std.specs.Arc.{arc_value}
use Rattle.level_store.specs.Agreement.{is_ready}
use Rattle.level_store.proofs.PlaneLemmas.{stands_set}
use Rattle.level_store.proofs.store.LevelStore.evict.Goals as goal

pub invariant_of-self-2 : goal.invariant_of-self-2
invariant_of-self-2 c =
    let level = c.in_ok-level.level in
    let planes = c.self.inside.planes.items in
    let within : level < length planes = omega (arith, c.in_ok-level.ensures.range.1, c.self.invariant.places) in
    stands_set (arc_value c.self.inside.source) c.self.inside.levels.mips.entries c.evict.new.self.mips.entries planes level None c.self.invariant within c.in_ok-level.ensures.others
    (sym (ap is_ready c.in_ok-level.ensures.gone)) (λ p e. cc)
