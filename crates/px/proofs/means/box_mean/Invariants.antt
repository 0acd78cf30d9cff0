use Rattle.std.proofs.Common.{◌≡◌, ◌*◌, ◌≤◌}
use Rattle.px.specs.Cut.{value_at}
use Rattle.px.specs.Means.{part}
use Rattle.px.specs.Sums.{total}
use Rattle.px.proofs.means.box_mean.Given as goal

abbrev pub invariant-loop-j : goal.invariant-loop-j
invariant-loop-j l = record {
  sum_is : l.sum ≡ total (λ y. total (λ x. part l.plane.kind (value_at l.plane) l.channel x y) l.rows.x l.rows.w) l.rows.y l.j;
  count_is : l.count ≡ total (λ y. total (λ x. part l.plane.kind (λ x y c. 1) l.channel x y) l.rows.x l.rows.w) l.rows.y l.j;
  small : l.sum ≤ l.count * 1048575;
  few : l.count ≤ l.j * 16384;
}
