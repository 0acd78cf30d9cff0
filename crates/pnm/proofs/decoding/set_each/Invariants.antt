use Rattle.std.proofs.Common.{ℕ, ◌<◌, slice_index}
use Rattle.pnm.proofs.decoding.set_each.Given as goal

abbrev pub invariant-loop-i : goal.invariant-loop-i
invariant-loop-i g l = (k : ℕ) → k < l.i → goal.F-post g l.f k (slice_index l.values k)
