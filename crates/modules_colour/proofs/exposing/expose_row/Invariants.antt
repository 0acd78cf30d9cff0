use Rattle.std.proofs.Common.{◌≡◌, ℕ, ◌<◌, slice_index}
use Rattle.modules_colour.specs.Exposing.{exposed}
use Rattle.modules_colour.proofs.exposing.expose_row.Given as goal

abbrev pub invariant-loop-i : goal.invariant-loop-i
invariant-loop-i l = (k : ℕ) → k < l.i → slice_index l.row k ≡ exposed l.params (slice_index l.from k)
