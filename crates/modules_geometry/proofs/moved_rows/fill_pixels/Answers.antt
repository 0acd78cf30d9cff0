use Rattle.std.proofs.Common.{◌≡◌, ◌+◌, arith}
use Rattle.px.proofs.RowLemmas.{row_more, adds_three}
use Rattle.modules_geometry.proofs.MovedLemmas.{given-moved}
use Rattle.modules_geometry.proofs.moved_rows.fill_pixels.Goals as goal

pub loop-k-preserved : goal.loop-k-preserved
loop-k-preserved c =
    let given = given-moved c.args.input.now c.args.trace (c.args.x + c.loop-k.k) c.args.y c.of-u.result.0 c.of-u.result.1 c.rgb-pixel.result c.of-u.ensures c.rgb-pixel.ensures.pixel c.rgb-pixel.ensures.top in
    row_more _ _ _ 3 _ _ c.rgb-pixel.result _ c.loop-k.invariant given c.rgb-pixel.ensures.top
    (adds_three c.loop-k.k _ _ _ (omega arith) (omega arith))

pub returns : goal.returns
returns c =
    let all : c.loop-k.k ≡ c.args.n = omega arith in rw all at c.loop-k.invariant
