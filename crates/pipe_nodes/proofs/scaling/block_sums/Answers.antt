use Rattle.std.proofs.Common.{ℕ, ◌+◌, ◌≡◌, ◌≤◌, refl, ◌∙◌, arith}
use Rattle.px.specs.Cut.{value_at}
use Rattle.px.specs.Means.{part}
use Rattle.px.specs.Sums.{total}
use Rattle.px.proofs.MeanLemmas.{row_of_rgb, sum_by_rows, total_step}
use Rattle.px.proofs.PixelLemmas.{IsOwnRow}
use Rattle.pipe_nodes.proofs.scaling.block_sums.Goals as goal

pub loop-j-preserved : goal.loop-j-preserved
loop-j-preserved c =
    let p = c.args.plane.now in
    let y = c.args.y + c.loop-j.j in
    let own : IsOwnRow p c.args.x y c.args.w c.row.result.now = record { values = c.row.ensures.values; top = c.row.ensures.top } in
    let left : p.area.x ≤ c.args.x = c.requires.covers.left in
    let before = c.loop-j.invariant in
    let sums = c.row_sums-r.ensures in
    let more = λ (k : ℕ). λ (v : ℕ). total (λ u. part p.kind (value_at p) k u v) c.args.x c.args.w in
    record {
      red_is = total_step (more 0) c.args.y c.loop-j.j c.loop-j.red c.row_sums-r.result.0 before.red_is (sums.red ∙ row_of_rgb p 0 c.args.x y c.args.w c.row.result.now c.requires.rgb own left (omega arith));
      green_is = total_step (more 1) c.args.y c.loop-j.j c.loop-j.green c.row_sums-r.result.1 before.green_is (sums.green ∙ row_of_rgb p 1 c.args.x y c.args.w c.row.result.now c.requires.rgb own left (omega arith));
      blue_is = total_step (more 2) c.args.y c.loop-j.j c.loop-j.blue c.row_sums-r.result.2 before.blue_is (sums.blue ∙ row_of_rgb p 2 c.args.x y c.args.w c.row.result.now c.requires.rgb own left (omega arith));
      red_small = omega (arith, before.red_small, sums.small.0);
      green_small = omega (arith, before.green_small, sums.small.1);
      blue_small = omega (arith, before.blue_small, sums.small.2);
    }

pub returns-clause-red : goal.returns-clause-red
returns-clause-red c =
    let all : c.loop-j.j ≡ c.args.h = omega arith in
    sum_by_rows c.args.plane.now.kind (value_at c.args.plane.now) 0 (record { x = c.args.x; y = c.args.y; w = c.args.w; h = c.args.h }) _ _ _ _ c.loop-j.red refl refl refl all c.loop-j.invariant.red_is

pub returns-clause-green : goal.returns-clause-green
returns-clause-green c =
    let all : c.loop-j.j ≡ c.args.h = omega arith in
    sum_by_rows c.args.plane.now.kind (value_at c.args.plane.now) 1 (record { x = c.args.x; y = c.args.y; w = c.args.w; h = c.args.h }) _ _ _ _ c.loop-j.green refl refl refl all c.loop-j.invariant.green_is

pub returns-clause-blue : goal.returns-clause-blue
returns-clause-blue c =
    let all : c.loop-j.j ≡ c.args.h = omega arith in
    sum_by_rows c.args.plane.now.kind (value_at c.args.plane.now) 2 (record { x = c.args.x; y = c.args.y; w = c.args.w; h = c.args.h }) _ _ _ _ c.loop-j.blue refl refl refl all c.loop-j.invariant.blue_is
