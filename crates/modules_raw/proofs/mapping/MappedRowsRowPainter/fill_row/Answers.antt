use Rattle.std.proofs.Common.{sym, ◌∙◌, arith}
use Rattle.modules_raw.proofs.MappedLemmas.{mapped_row, made_of_mosaic, made_of_rgb}
use Rattle.modules_raw.proofs.mapping.MappedRowsRowPainter.fill_row.Goals as goal

pub returns-in-Mosaic : goal.returns-in-Mosaic
returns-in-Mosaic g c =
    let p = c.args.self.now.input.now in
    let first = c.requires.asks 0 (omega arith) in
    let makes = g.M.ChannelMap.makes c.args.self.now.map.now in
    record {
      row = mapped_row p makes c.args.x c.args.y c.args.n c.row-from.result.now c.map_mosaic.new.row (record { values = c.row-from.ensures.values; top = c.row-from.ensures.top }) (omega (arith, first.0.left))
          (made_of_mosaic p _ makes c.args.x c.args.y c.args.n c.row-from.result.now c.map_mosaic.new.row (sym c.kind.ensures ∙ c.in-Mosaic.is) c.row-from.ensures.len (c.map_mosaic.auto.row ∙ (c.requires.len ∙ sym c.row-from.ensures.len))
          c.map_mosaic.ensures.values c.map_mosaic.ensures.top);
    }

pub returns-in-Rgb : goal.returns-in-Rgb
returns-in-Rgb g c =
    let p = c.args.self.now.input.now in
    let first = c.requires.asks 0 (omega arith) in
    let makes = g.M.ChannelMap.makes c.args.self.now.map.now in
    record {
      row = mapped_row p makes c.args.x c.args.y c.args.n c.row-from.result.now c.change_threes.new.row (record { values = c.row-from.ensures.values; top = c.row-from.ensures.top }) (omega (arith, first.0.left))
          (made_of_rgb p makes c.args.x c.args.y c.args.n c.row-from.result.now c.change_threes.new.row (sym c.kind.ensures ∙ c.in-Rgb.is) c.row-from.ensures.len (c.change_threes.auto.row ∙ (c.requires.len ∙ sym c.row-from.ensures.len))
          c.change_threes.ensures.values c.change_threes.ensures.top);
    }
