use Rattle.std.proofs.Common.{◌≡◌, ◌/◌, ap, ◌∙◌, arith}
use Rattle.px.specs.declared.painting.Rows.{Rows}
use Rattle.px.specs.Cut.{value_at}
use Rattle.px.specs.Means.{part, sum_in, count_in}
use Rattle.px.specs.Mosaic.{channel}
use Rattle.px.specs.Sums.{total}
use Rattle.px.proofs.MeanLemmas.{sum_by_rows, total_step}
use Rattle.px.proofs.means.box_mean.Goals as goal

pub loop-j-preserved : goal.loop-j-preserved
loop-j-preserved c =
    let p = c.args.plane.now in
    let rows = c.rows_of-rows.result in
    record {
      sum_is = total_step (λ y. total (λ x. part p.kind (value_at p) c.channel-channel.result x y) rows.x rows.w) rows.y c.loop-j.j c.loop-j.sum c.row_sum-part.result.0
          c.loop-j.invariant.sum_is c.row_sum-part.ensures.sum;
      count_is = total_step (λ y. total (λ x. part p.kind (λ x y c. 1) c.channel-channel.result x y) rows.x rows.w) rows.y c.loop-j.j c.loop-j.count c.row_sum-part.result.1
          c.loop-j.invariant.count_is c.row_sum-part.ensures.count;
      small = omega arith;
      few = omega (arith, c.rows_of-rows.ensures.valid.right, ap (λ (r : Rows). r.w) c.rows_of-rows.ensures.rows);
    }

pub nonzero_div-result : goal.nonzero_div-result
nonzero_div-result c =
    let p = c.args.plane.now in
    let rows = c.rows_of-rows.ensures.rows in
    let all : c.loop-j.j ≡ c.rows_of-rows.result.h = omega arith in
    let count : c.loop-j.count ≡ count_in p.kind (channel c.args.c) c.args.block =
    sum_by_rows p.kind (λ x y c. 1) c.channel-channel.result c.args.block _ _ _ _ c.loop-j.count (ap (λ r. r.x) rows) (ap (λ r. r.y) rows) (ap (λ r. r.w) rows) (all ∙ ap (λ r. r.h) rows) c.loop-j.invariant.count_is
    ∙ ap (λ k. count_in p.kind k c.args.block) c.channel-channel.ensures.channel in
    omega (arith, count, c.from.ensures, c.requires.some)

pub returns-clause-mean : goal.returns-clause-mean
returns-clause-mean c =
    let p = c.args.plane.now in
    let rows = c.rows_of-rows.ensures.rows in
    let all : c.loop-j.j ≡ c.rows_of-rows.result.h = omega arith in
    let count : c.loop-j.count ≡ count_in p.kind (channel c.args.c) c.args.block =
    sum_by_rows p.kind (λ x y c. 1) c.channel-channel.result c.args.block _ _ _ _ c.loop-j.count (ap (λ r. r.x) rows) (ap (λ r. r.y) rows) (ap (λ r. r.w) rows) (all ∙ ap (λ r. r.h) rows) c.loop-j.invariant.count_is
    ∙ ap (λ k. count_in p.kind k c.args.block) c.channel-channel.ensures.channel in
    let sum : c.loop-j.sum ≡ sum_in p.kind (value_at p) (channel c.args.c) c.args.block =
    sum_by_rows p.kind (value_at p) c.channel-channel.result c.args.block _ _ _ _ c.loop-j.sum (ap (λ r. r.x) rows) (ap (λ r. r.y) rows) (ap (λ r. r.w) rows) (all ∙ ap (λ r. r.h) rows) c.loop-j.invariant.sum_is
    ∙ ap (λ k. sum_in p.kind (value_at p) k c.args.block) c.channel-channel.ensures.channel in
    ap (λ n. n / c.from.result) sum ∙ ap (λ n. sum_in p.kind (value_at p) (channel c.args.c) c.args.block / n) (c.from.ensures ∙ count)
