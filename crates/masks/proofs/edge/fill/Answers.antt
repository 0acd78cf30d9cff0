use Rattle.std.proofs.Common.{refl, arith}
use Rattle.masks.proofs.FillLemmas.{filled_more}
use Rattle.masks.proofs.edge.fill.Goals as goal

pub loop-k-preserved : goal.loop-k-preserved
loop-k-preserved c = filled_more (λ k. c.args.value) c.args.from c.loop-k.k c.args.row.now c.loop-k.row c.args.value (omega arith) c.loop-k.invariant (omega arith) refl
