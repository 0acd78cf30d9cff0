use Rattle.std.proofs.Common.{◌≡◌, sym, ap, subst}
use Rattle.px.specs.Cut.{Cut, picture_of}
use Rattle.level_store.specs.Planes.{IsLevelPlane}
use Rattle.pipe_nodes.proofs.RunLemmas.{itself}
use Rattle.pipe_worker.proofs.input.fill_level.Goals as goal

pub demote-requires-clause-whole : goal.demote-requires-clause-whole
demote-requires-clause-whole g c =
    let source : c.args.source.now ≡ c.args.hold.source = cc in
    let made : IsLevelPlane c.args.source.now c.level.result c.in-Ok.plane = record { cut = c.in-Ok.ensures.cut (picture_of c.args.source.now) (itself c.args.source.now); whole = c.in-Ok.ensures.whole } in
    subst (λ l. IsLevelPlane c.args.hold.source l c.in-Ok.plane) c.level.ensures.level (subst (λ (s : Cut). IsLevelPlane s c.level.result c.in-Ok.plane) source made)
