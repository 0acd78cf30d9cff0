use Rattle.std.proofs.Common.{sym, ◌∙◌, arith}
use Rattle.px.proofs.MeanLemmas.{row_of_rgb, count_of_rgb}
use Rattle.px.proofs.means.row_sum.Goals as goal

pub returns-in-Rgb-clause-sum : goal.returns-in-Rgb-clause-sum
returns-in-Rgb-clause-sum c =
    c.strided_sum.ensures.sum
    ∙ row_of_rgb c.args.plane.now c.args.c c.args.x c.args.y c.args.n c.row-row.result.now (sym c.kind.ensures ∙ c.in-Rgb.is)
    (record { values = c.row-row.ensures.values; top = c.row-row.ensures.top }) (omega (arith, c.requires.covers.left)) c.requires.channel

pub returns-in-Rgb-clause-count : goal.returns-in-Rgb-clause-count
returns-in-Rgb-clause-count c = count_of_rgb c.args.plane.now.kind c.args.c c.args.x c.args.y c.args.n (sym c.kind.ensures ∙ c.in-Rgb.is)
