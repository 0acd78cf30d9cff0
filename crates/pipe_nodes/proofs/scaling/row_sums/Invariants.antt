use Rattle.std.proofs.Common.{◌≡◌, ◌+◌, ◌*◌, ◌≤◌, slice_index}
use Rattle.px.specs.Sums.{total}
use Rattle.pipe_nodes.proofs.scaling.row_sums.Given as goal

-- the sums along the pixels so far
abbrev pub invariant-loop-k : goal.invariant-loop-k
invariant-loop-k l = record {
  red_is : l.red ≡ total (λ k. slice_index l.row (0 + k * 3)) 0 l.k;
  green_is : l.green ≡ total (λ k. slice_index l.row (1 + k * 3)) 0 l.k;
  blue_is : l.blue ≡ total (λ k. slice_index l.row (2 + k * 3)) 0 l.k;
  red_small : l.red ≤ l.k * 1048575;
  green_small : l.green ≤ l.k * 1048575;
  blue_small : l.blue ≤ l.k * 1048575;
}
