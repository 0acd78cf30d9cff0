use Rattle.std.proofs.Common.{◌≡◌, ◌*◌, ◌≤◌}
use Rattle.px.specs.Cut.{value_at}
use Rattle.px.specs.Means.{part}
use Rattle.px.specs.Sums.{total}
use Rattle.pipe_nodes.proofs.scaling.block_sums.Given as goal

-- the sums of the rows so far
abbrev pub invariant-loop-j : goal.invariant-loop-j
invariant-loop-j l = record {
  red_is : l.red ≡ total (λ v. total (λ u. part l.plane.kind (value_at l.plane) 0 u v) l.x l.w) l.y l.j;
  green_is : l.green ≡ total (λ v. total (λ u. part l.plane.kind (value_at l.plane) 1 u v) l.x l.w) l.y l.j;
  blue_is : l.blue ≡ total (λ v. total (λ u. part l.plane.kind (value_at l.plane) 2 u v) l.x l.w) l.y l.j;
  red_small : l.red ≤ (l.j * l.w) * 1048575;
  green_small : l.green ≤ (l.j * l.w) * 1048575;
  blue_small : l.blue ≤ (l.j * l.w) * 1048575;
}
