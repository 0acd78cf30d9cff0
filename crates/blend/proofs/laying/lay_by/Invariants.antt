use Rattle.std.proofs.Common.{◌≡◌, ℕ, ◌<◌, ◌≤◌, slice_index}
use Rattle.blend.specs.Blending.{moved}
use Rattle.blend.proofs.laying.lay_by.Given as goal

abbrev pub invariant-loop-k : goal.invariant-loop-k
invariant-loop-k g l = record {
  done : (i : ℕ) → i < l.k → slice_index l.row i ≡ moved g.L.Lays.mode (slice_index l.parts i) (slice_index l.from i) (slice_index l.fn.row i);
  rest : (i : ℕ) → l.k ≤ i → slice_index l.row i ≡ slice_index l.fn.row i;
}
