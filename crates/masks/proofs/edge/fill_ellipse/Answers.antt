use Rattle.std.proofs.Common.{arith}
use Rattle.masks.specs.Lines.{ellipse_at}
use Rattle.masks.proofs.FillLemmas.{filled_further}
use Rattle.masks.proofs.edge.fill_ellipse.Goals as goal

pub loop-from-preserved : goal.loop-from-preserved
loop-from-preserved c = record {
  filled = filled_further (ellipse_at c.args.line c.args.edge) c.loop-from.from _ c.loop-from.row _ c.loop-from.invariant.filled c.fill_block.ensures;
  within = omega arith;
}
