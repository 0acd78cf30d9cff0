use Rattle.std.proofs.Common.{◌≡◌, ◌+◌, ◌*◌, ◌∙◌, Ok, sym, subst, length}
use Rattle.px.specs.Area.{Covers}
use Rattle.px.specs.Rows.{area_of}
use Rattle.px.specs.Bands.{band_of, HasRow}
use Rattle.px.proofs.BandLemmas.{band_covered, band_len, band_made}
use Rattle.px.proofs.banding.ByPlanesBandFillerU32.fill.Goals as goal

pub copy_from_slice-requires : goal.copy_from_slice-requires
copy_from_slice-requires g c =
    let s = c.args.self.now in
    let p = c.in_ok-plane.plane in
    let covers = band_covered (area_of s.rows) c.args.y c.args.n c.requires.some (λ j below. (c.requires.asks j below).0) in
    let shaped = (c.requires.asks 0 c.requires.some).3 in
    let made = subst (λ r. goal.F-post g s.make (band_of (area_of s.rows) c.args.y c.args.n) r) c.in_ok-plane.was c.make.ensures in
    c.requires.len ∙ sym (band_len s.kind s.w s.h (area_of s.rows) c.args.y c.args.n p c.values.result.now (shaped (band_of (area_of s.rows) c.args.y c.args.n) p covers made) c.values.ensures.valid c.values.ensures.values)

pub returns : goal.returns
returns g c =
    let s = c.args.self.now in
    let p = c.in_ok-plane.plane in
    let covers = band_covered (area_of s.rows) c.args.y c.args.n c.requires.some (λ j below. (c.requires.asks j below).0) in
    let shaped = (c.requires.asks 0 c.requires.some).3 in
    band_made s.kind s.w s.h (area_of s.rows) _ c.args.y c.args.n p c.copy_from_slice.new.self covers shaped (subst (λ r. goal.F-post g s.make (band_of (area_of s.rows) c.args.y c.args.n) r) c.in_ok-plane.was c.make.ensures) c.values.ensures.valid (c.copy_from_slice.ensures.after ∙ c.values.ensures.values)

pub invariant_of-band : goal.invariant_of-band
invariant_of-band g c =
    let area = (c.requires.asks 0 c.requires.some).1 in
    record { wide = area.wide; high = c.requires.some; right = area.right; bottom = c.requires.fits }

pub make-requires : goal.make-requires
make-requires g c =
    let s = c.args.self.now in
    let covers = band_covered (area_of s.rows) c.args.y c.args.n c.requires.some (λ j below. (c.requires.asks j below).0) in
    (c.requires.asks 0 c.requires.some).2 (band_of (area_of s.rows) c.args.y c.args.n) covers
