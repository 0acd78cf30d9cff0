use Rattle.std.proofs.Common.{◌≡◌, ◌<◌, Some, sym, ap, subst, ◌∙◌, arith, length}
use Rattle.std.specs.Prelude.{slice_set}
use Rattle.std.specs.Arc.{arc_value}
use Rattle.px.specs.Cut.{Cut, IsCutOf}
use Rattle.px.specs.Picture.{Picture}
use Rattle.modules_raw.specs.Levels.{levelled}
use Rattle.level_store.specs.declared.hold.Hold.TheVariants.{Writes}
use Rattle.level_store.specs.Levels.{LevelsSeen, hold_in, demoted_by}
use Rattle.level_store.specs.Planes.{PlanesStand}
use Rattle.level_store.proofs.AgreeLemmas.{write_range}
use Rattle.level_store.proofs.PlaneLemmas.{stands_made}
use Rattle.level_store.proofs.store.LevelStore.demote.Goals as goal

pub level-requires-clause-low : goal.level-requires-clause-low
level-requires-clause-low g c _ _ =
    let levels = c.self.inside.levels in
    (write_range levels.mips.entries levels.holds c.args.worker c.in-Some-Writes.level c.hold.ensures.agree (sym c.in-Some-Writes.ensures.hold ∙ ap Some c.in-Some-Writes.field-0-is)).0

pub level-requires-clause-high : goal.level-requires-clause-high
level-requires-clause-high g c _ _ =
    let levels = c.self.inside.levels in
    (write_range levels.mips.entries levels.holds c.args.worker c.in-Some-Writes.level c.hold.ensures.agree (sym c.in-Some-Writes.ensures.hold ∙ ap Some c.in-Some-Writes.field-0-is)).1

pub index_mut-requires : goal.index_mut-requires
index_mut-requires g c =
    let levels = c.self.inside.levels in
    let range = write_range levels.mips.entries levels.holds c.args.worker c.in-Some-Writes.level c.hold.ensures.agree (sym c.in-Some-Writes.ensures.hold ∙ ap Some c.in-Some-Writes.field-0-is) in
    omega (arith, range.1, c.self.inside.planes.ok.0, c.self.invariant.places)

pub invariant_of-self : goal.invariant_of-self
invariant_of-self g c =
    let levels = c.self.inside.levels in
    let level = c.in-Some-Writes.level in
    let planes = c.self.inside.planes.items in
    let source = arc_value c.self.inside.source in
    let own : hold_in levels.holds c.args.worker ≡ Some (Writes level) = sym c.in-Some-Writes.ensures.hold ∙ ap Some c.in-Some-Writes.field-0-is in
    let range = write_range levels.mips.entries levels.holds c.args.worker level c.hold.ensures.agree own in
    let within : level < length planes = omega (arith, range.1, c.self.invariant.places) in
    let after = ap (λ (v : LevelsSeen). v.mips.entries) (c.demote.ensures.levels ∙ ap (demoted_by c.args.worker levels) own) in
    let cut = subst (λ (s : Cut). (q : Picture) → IsCutOf q s → IsCutOf (levelled level q) c.in_ok-plane.plane) c.deref.ensures c.in_ok-plane.ensures.cut in
    subst (λ es. PlanesStand source es (slice_set planes level (Some c.in_ok-plane.plane))) (sym after)
    (stands_made source levels.mips.entries c.args.worker planes level c.in_ok-plane.plane c.self.invariant within ((c.hold.ensures.agree.each level).writes c.args.worker own)
    c.in_ok-plane.ensures.whole cut)
