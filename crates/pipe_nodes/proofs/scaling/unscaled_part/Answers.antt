use Rattle.std.proofs.Common.{◌∙◌, sym, subst}
use Rattle.px.specs.Cut.{IsCutOf, IsPlane, picture_of}
use Rattle.pipe_nodes.specs.Windows.{part_of, scaled}
use Rattle.pipe_nodes.proofs.UnscaledLemmas.{as-own, part-is-plane, part-unscaled}
use Rattle.pipe_nodes.proofs.WindowLemmas.{itself}
use Rattle.pipe_nodes.proofs.scaling.unscaled_part.Goals as goal

pub from_rows-requires : goal.from_rows-requires
from_rows-requires c =
    let p = c.args.plane.now in
    let part = c.in_ok-part.part in
    subst IsPlane (as-own part c.args.columns c.args.rows c.whole-whole.result c.into_values.result.items c.whole-whole.ensures c.into_values.ensures.values)
    (part-is-plane part c.args.left c.args.top c.args.columns c.args.rows ((c.in_ok-part.ensures.cut (picture_of p) (itself p)).kind ∙ c.requires.rgb) c.in_ok-part.ensures.area c.into_values.ensures.valid)

pub returns-clause-cut : goal.returns-clause-cut
returns-clause-cut c = λ q of_p.
    let p = c.args.plane.now in
    let part = c.in_ok-part.part in
    subst (λ o. IsCutOf (part_of (record { x = c.args.left; y = c.args.top; w = c.args.columns; h = c.args.rows }) (scaled 1 q)) o)
    (as-own part c.args.columns c.args.rows c.whole-whole.result c.into_values.result.items c.whole-whole.ensures c.into_values.ensures.values ∙ sym c.from_rows.ensures)
    (part-unscaled p part q c.args.left c.args.top c.args.columns c.args.rows c.requires.rgb c.requires.inside c.in_ok-part.ensures.area of_p (c.in_ok-part.ensures.cut q of_p))
