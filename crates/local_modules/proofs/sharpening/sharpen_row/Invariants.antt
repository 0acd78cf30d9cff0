use Rattle.std.proofs.Common.{◌≡◌, ℕ, ◌<◌, slice_index}
use Rattle.local_modules.specs.Sharpening.{sharpened}
use Rattle.local_modules.proofs.sharpening.sharpen_row.Given as goal

abbrev pub invariant-loop-i : goal.invariant-loop-i
invariant-loop-i l = (k : ℕ) → k < l.i → slice_index l.row k ≡ sharpened l.amount (slice_index l.from k) (slice_index l.blurred k)
