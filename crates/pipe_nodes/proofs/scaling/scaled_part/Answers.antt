use Rattle.std.proofs.Common.{sym, subst}
use Rattle.std.proofs.lemmas.Result.{IfOk-weaker}
use Rattle.px.specs.Cut.{IsCutOf}
use Rattle.pipe_nodes.specs.Windows.{part_of, scaled}
use Rattle.pipe_nodes.proofs.ScaleLemmas.{asks-scaled, part-of-painted}
use Rattle.pipe_nodes.proofs.scaling.scaled_part.Goals as goal

pub paint-requires-clause-asks : goal.paint-requires-clause-asks
paint-requires-clause-asks g c κs within =
    asks-scaled c.args.plane.now c.args.factor c.args.left c.args.top c.args.columns c.args.rows c.whole-region.result c.requires.rgb c.requires.some c.requires.small c.whole-region.ensures
    c.requires.inside c.requires.covers

pub returns-clause-cut : goal.returns-clause-cut
returns-clause-cut g c =
    IfOk-weaker c.paint.result _ _ (λ p painted q part.
    part-of-painted c.args.plane.now q c.args.factor c.args.left c.args.top c.args.columns c.args.rows c.whole-region.result p painted
    (asks-scaled c.args.plane.now c.args.factor c.args.left c.args.top c.args.columns c.args.rows c.whole-region.result c.requires.rgb c.requires.some c.requires.small c.whole-region.ensures
    c.requires.inside c.requires.covers) part) c.paint.ensures

pub returns-then-factor-eq1-clause-cut : goal.returns-then-factor-eq1-clause-cut
returns-then-factor-eq1-clause-cut g c =
    IfOk-weaker c.unscaled_part.result _ _ (λ p cut q part.
    subst (λ f. IsCutOf (part_of (record { x = c.args.left; y = c.args.top; w = c.args.columns; h = c.args.rows }) (scaled f q)) p) (sym c.if-factor-eq1.true) (cut q part)) c.unscaled_part.ensures.cut
