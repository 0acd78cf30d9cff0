use Rattle.std.proofs.Common.{◌≡◌, ℕ, Some, sym, ap, subst, ◌∙◌, arith}
use Rattle.std.specs.Prelude.{IfSome}
use Rattle.std.specs.Arc.{arc_value}
use Rattle.level_store.specs.declared.hold.Hold.TheVariants.{Reads}
use Rattle.level_store.specs.Levels.{StoreSeen, hold_in, hold_of}
use Rattle.level_store.specs.Planes.{IsOfLevel}
use Rattle.level_store.proofs.AgreeLemmas.{read_range}
use Rattle.level_store.proofs.PlaneLemmas.{plane_read}
use Rattle.level_store.proofs.store.LevelStore.plane.Goals as goal

pub index-requires : goal.index-requires
index-requires c =
    let levels = c.self.inside.levels in
    let own : hold_in levels.holds c.args.worker ≡ Some (Reads c.in-Some-Reads.level) = sym c.in-Some-Reads.ensures.hold ∙ ap Some c.in-Some-Reads.field-0-is in
    let range = (read_range levels.mips.entries levels.holds c.args.worker c.in-Some-Reads.level c.hold.ensures.agree own).0 in
    omega (arith, range.1, c.self.inside.planes.ok.0, c.self.invariant.places)

pub returns-in-Some-Reads-clause-plane : goal.returns-in-Some-Reads-clause-plane
returns-in-Some-Reads-clause-plane c =
    let levels = c.self.inside.levels in
    let own : hold_in levels.holds c.args.worker ≡ Some (Reads c.in-Some-Reads.level) = sym c.in-Some-Reads.ensures.hold ∙ ap Some c.in-Some-Reads.field-0-is in
    subst (λ (v : StoreSeen). IfSome c.as_ref.result (λ p. (level : ℕ) → hold_of v.levels c.args.worker ≡ Some (Reads level) → IsOfLevel v.source level p.now)) c.self.view_is
    (plane_read (arc_value c.self.inside.source) levels.mips.entries levels.holds c.self.inside.planes.items c.args.worker c.in-Some-Reads.level c.index.result.now c.as_ref.result
    c.hold.ensures.agree c.self.invariant own c.index.ensures c.as_ref.ensures.value)
