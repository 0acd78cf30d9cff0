use Rattle.std.proofs.Common.{◌∙◌}
use Rattle.px.specs.Cut.{picture_of}
use Rattle.pnm.proofs.RasterLemmas.{itself, picture_again, whole_again}
use Rattle.pnm.proofs.reading.read.Goals as goal

pub returns-in_ok-cut-in-Ok-clause-picture : goal.returns-in_ok-cut-in-Ok-clause-picture
returns-in_ok-cut-in-Ok-clause-picture c =
    let raster = c.in-Ok.raster in
    let p = c.in_ok-cut-in-Ok.field-0 in
    let cut = c.in_ok-cut-in-Ok.ensures.cut (picture_of raster) (itself raster) in
    picture_again c.args.bytes.now c.args.cfa (picture_of raster) p c.in-Ok.ensures.picture cut (whole_again raster p c.sides-w.result c.sides-w.ensures.sides (c.in_ok-cut-in-Ok.ensures.area ∙ c.whole.ensures) cut)

pub returns-in_ok-cut-in-Ok-clause-only : goal.returns-in_ok-cut-in-Ok-clause-only
returns-in_ok-cut-in-Ok-clause-only c q shows = c.in_ok-cut-in-Ok.ensures.cut q (c.in-Ok.ensures.only q shows)

pub returns-in_ok-cut-in-Ok-clause-whole : goal.returns-in_ok-cut-in-Ok-clause-whole
returns-in_ok-cut-in-Ok-clause-whole c =
    let raster = c.in-Ok.raster in
    let p = c.in_ok-cut-in-Ok.field-0 in
    whole_again raster p c.sides-w.result c.sides-w.ensures.sides (c.in_ok-cut-in-Ok.ensures.area ∙ c.whole.ensures) (c.in_ok-cut-in-Ok.ensures.cut (picture_of raster) (itself raster))
