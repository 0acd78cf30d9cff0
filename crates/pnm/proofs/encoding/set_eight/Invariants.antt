use Rattle.std.proofs.Common.{◌≡◌, ℕ, ◌/◌, ◌<◌, min, slice_index}
use Rattle.pnm.proofs.encoding.set_eight.Given as goal

abbrev pub invariant-loop-k : goal.invariant-loop-k
invariant-loop-k l = (i : ℕ) → i < l.k → slice_index l.bytes i ≡ min (slice_index l.values i) 65535 / 257
