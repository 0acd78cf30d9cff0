use Rattle.std.proofs.Common.{ap, ◌∙◌, refl, arith}
use Rattle.px.proofs.BandLemmas.{plane_of_bands}
use Rattle.px.specs.Rows.{area_of}
use Rattle.px.proofs.banding.paint_bands.Goals as goal

pub returns : goal.returns
returns g c =
    let rows = c.rows_of-rows.ensures.rows in
    rw c.from_rows.ensures (plane_of_bands c.args.kind c.args.w c.args.h c.args.region _ _ _ _ c.fill_bands.new.rows _ _ (ap area_of rows) (ap (λ r. r.y) rows) (ap (λ r. r.h) rows)
    (omega (arith, c.fill_bands.auto.rows, c.deref_mut.ensures.len)) c.in_ok-fill_bands.ensures)
