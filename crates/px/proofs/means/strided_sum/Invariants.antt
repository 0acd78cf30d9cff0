use Rattle.std.proofs.Common.{◌≡◌, ◌+◌, ◌*◌, ◌≤◌, slice_index}
use Rattle.px.specs.Sums.{total}
use Rattle.px.proofs.means.strided_sum.Given as goal

abbrev pub invariant-loop-k : goal.invariant-loop-k
invariant-loop-k l = (l.sum ≡ total (λ k. slice_index l.values (l.from + k * l.step)) 0 l.k) × (l.sum ≤ l.k * 1048575)
