use Rattle.std.proofs.Common.{arith}
use Rattle.px.proofs.PixelLemmas.{copied_row}
use Rattle.pnm.proofs.raster.DecodedRowsRowPainter.fill_row.Goals as goal

pub returns : goal.returns
returns c =
    let p = c.args.self.now.raster.now in
    let first = c.requires.asks 0 (omega arith) in
    record { row = copied_row p c.args.x c.args.y c.args.n c.decode_row.new.row (record { values = c.decode_row.ensures.values; top = c.decode_row.ensures.top }) (omega (arith, first.left)) }
