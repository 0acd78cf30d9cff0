use Rattle.std.proofs.Common.{ℕ, ◌<◌}
use Rattle.pnm.proofs.ByteLemmas.{HasPair}
use Rattle.pnm.proofs.encoding.set_sixteen.Given as goal

abbrev pub invariant-loop-k : goal.invariant-loop-k
invariant-loop-k l = (i : ℕ) → i < l.k → HasPair l.values l.bytes i
