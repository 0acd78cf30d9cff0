use Rattle.std.proofs.Common.{subst}
use Rattle.std.specs.Prelude.{IfOk}
use Rattle.px.specs.Cut.{Cut, IsCutOf, picture_of}
use Rattle.modules_raw.specs.Levels.{levelled}
use Rattle.shared_mips.proofs.TurnLemmas.{part_is}
use Rattle.shared_mips.proofs.cache.MipCache.read.Goals as goal

pub returns-clause-plane : goal.returns-clause-plane
returns-clause-plane c =
    let level = c.args.hold.now.level in
    subst (λ (source : Cut). IfOk c.cut.result (λ p. IsCutOf (levelled level (picture_of source)) p)) c.requires.cache
    (part_is (levelled level (picture_of c.args.hold.now.source)) c.plane.result.now c.cut.result c.cut.ensures.cut c.plane.ensures.cut)
