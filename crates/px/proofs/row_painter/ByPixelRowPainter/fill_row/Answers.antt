use Rattle.std.proofs.Common.{◌≡◌, arith}
use Rattle.px.proofs.RowLemmas.{row_more, adds_three}
use Rattle.px.proofs.row_painter.ByPixelRowPainter.fill_row.Goals as goal

pub loop-k-preserved : goal.loop-k-preserved
loop-k-preserved g c =
    row_more _ _ _ 3 _ _ c.pixel-pixel.result _ c.loop-k.invariant c.pixel-pixel.ensures (c.requires.gives _ _ c.loop-k-test.true c.pixel-pixel.ensures)
    (adds_three c.loop-k.k _ _ _ (omega arith) (omega arith))

pub returns : goal.returns
returns g c =
    let all : c.loop-k.k ≡ c.args.n = omega arith in record { row = rw all at c.loop-k.invariant }
