use Rattle.std.proofs.Common.{◌*◌, refl, arith}
use Rattle.px.proofs.RowLemmas.{row_more, adds_three}
use Rattle.modules_raw.proofs.mosaic_rows.edge_row.Goals as goal

pub loop-k-preserved : goal.loop-k-preserved
loop-k-preserved c =
    row_more _ _ _ 3 _ _ c.edge_pixel-pixel.result _ c.loop-k.invariant c.edge_pixel-pixel.ensures c.edge_pixel-pixel.ensures.top
    (adds_three c.loop-k.k (c.loop-k.k * 3) _ _ refl (omega arith))
