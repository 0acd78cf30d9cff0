use Rattle.geometry.proofs.TraceLemmas.{through-made}
use Rattle.geometry.proofs.module_trace.through.Goals as goal

pub returns : goal.returns
returns c =
    through-made c.args.outer c.args.inner c.swapped_if-flips.result.0 c.swapped_if-flips.result.1 c.of-x.result.0 c.of-x.result.1 c.of-left.result.0 c.of-left.result.1
    c.of-x.ensures c.of-left.ensures (c.requires.far c.of-x.result.0 c.of-x.result.1 c.of-x.ensures) c.swapped_if-flips.ensures.first c.swapped_if-flips.ensures.second
