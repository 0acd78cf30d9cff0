use Rattle.std.proofs.Common.{◌≡◌, arith}
use Rattle.pnm.proofs.ByteLemmas.{eight_all}
use Rattle.pnm.proofs.encoding.set_eight.Goals as goal

pub returns : goal.returns
returns c = eight_all c.args.values.now c.loop-k.bytes (omega arith) (λ i below. c.loop-k.invariant i (omega arith))
