use Rattle.std.proofs.Common.{◌-◌, length, ap, arith}
use Rattle.px.proofs.RowLemmas.{row_fits}
use Rattle.px.proofs.cover.Cover.row.Goals as goal

pub slice_bounds-result-end : goal.slice_bounds-result-end
slice_bounds-result-end c =
    let a = c.args.self.now.area in
    let valid = c.values-values.ensures.valid in
    let fits = row_fits (c.args.y - a.y) a.h a.w 1 (omega (arith, c.requires.first.top, c.requires.first.bottom)) in
    let len = ap length c.values-values.ensures.values in
    omega (arith, fits, valid.len, len, c.place-from.ensures.place, c.requires.first.left, c.requires.last)
