use Rattle.std.proofs.Common.{◌*◌, ◌/◌, ap, ◌∙◌, arith}
use Rattle.masks.specs.Coverage.{faded}
use Rattle.masks.specs.Lines.{ellipse_at}
use Rattle.masks.proofs.FillLemmas.{filled_more}
use Rattle.masks.proofs.edge.fill_each.Goals as goal

pub loop-k-preserved : goal.loop-k-preserved
loop-k-preserved c =
    filled_more (ellipse_at c.args.line c.args.edge) c.args.from c.loop-k.k c.args.row.now c.loop-k.row c.cover_of.result (omega arith) c.loop-k.invariant (omega arith)
    (c.cover_of.ensures.value ∙ ap (λ n. faded c.args.edge.feather (65536 * n / c.args.edge.rim)) c.far_at.ensures.value)
