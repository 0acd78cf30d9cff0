use Rattle.std.proofs.Common.{◌+◌, ◌-◌, ◌*◌, min, ap, ◌∙◌, arith}
use Rattle.px.proofs.RowLemmas.{row_more, adds_three}
use Rattle.pipe_nodes.specs.Windows.{IsScaled, means_at}
use Rattle.pipe_nodes.proofs.ScaleLemmas.{block-is}
use Rattle.pipe_nodes.proofs.scaling.scale_row.Goals as goal

pub loop-k-preserved : goal.loop-k-preserved
loop-k-preserved c =
    let p = c.args.plane.now in
    let f = c.args.factor in
    let i = c.args.left + (c.args.x + c.loop-k.k) in
    let j = c.args.top + c.args.y in
    let sides = c.sides-w.ensures.sides in
    let block = block-is f p.w p.h i j c.block_along-u.result.0 c.block_along-u.result.1 c.block_along-v.result.0 c.block_along-v.result.1
    c.block_along-u.ensures.start (c.block_along-u.ensures.len ∙ ap (λ s. min ((i + 1) * f) s.0 - i * f) sides)
    c.block_along-v.ensures.start (c.block_along-v.ensures.len ∙ ap (λ s. min ((j + 1) * f) s.1 - j * f) sides) in
    let given : IsScaled p f c.args.left c.args.top (c.args.x + c.loop-k.k) c.args.y c.block_means-pixel.result =
    record { pixel = c.block_means-pixel.ensures.pixel ∙ ap (means_at p) block; top_is = c.block_means-pixel.ensures.top } in
    row_more _ _ _ 3 _ _ c.block_means-pixel.result _ c.loop-k.invariant given c.block_means-pixel.ensures.top
    (adds_three c.loop-k.k _ _ _ (omega arith) (omega arith))
