use Rattle.std.proofs.Common.{ℕ, sym, subst, ◌∙◌}
use Rattle.px.specs.Cut.{Cut}
use Rattle.level_store.specs.Planes.{IsLevelPlane}
use Rattle.shared_mips.proofs.PlaneLemmas.{level_plane}
use Rattle.value_tests.proofs.shared_mips_tests.made.Goals as goal

pub demote-requires-clause-whole : goal.demote-requires-clause-whole
demote-requires-clause-whole g c =
    let plane = c.in-Ok.plane in
    let is = level_plane c.args.source.now c.level.result plane c.in-Ok.ensures.whole c.in-Ok.ensures.cut in
    subst (λ (l : ℕ). IsLevelPlane c.args.hold.source l plane) c.level.ensures.level
    (subst (λ (s : Cut). IsLevelPlane s c.level.result plane) (c.requires.source ∙ sym c.requires.hold) is)
