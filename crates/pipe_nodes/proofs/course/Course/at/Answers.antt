use Rattle.std.proofs.Common.{sym, subst}
use Rattle.px.specs.Area.{Fits}
use Rattle.pipe_nodes.proofs.StageLemmas.{level-fits}
use Rattle.pipe_nodes.proofs.course.Course.at.Goals as goal

pub start-requires : goal.start-requires
start-requires c =
    record { sides = subst (λ s. Fits 0 0 s.0 s.1) (sym c.level_sides-columns.ensures) (level-fits c.args.w c.args.h c.args.level c.requires.sides c.requires.level) }
