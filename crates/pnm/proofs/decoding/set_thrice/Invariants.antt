use Rattle.std.proofs.Common.{ℕ, ◌+◌, ◌*◌, ◌<◌, slice_index}
use Rattle.pnm.proofs.decoding.set_thrice.Given as goal

abbrev pub invariant-loop-i : goal.invariant-loop-i
invariant-loop-i g l = (k c : ℕ) → k < l.i → c < 3 → goal.F-post g l.f k (slice_index l.values (k * 3 + c))
