use Rattle.std.proofs.Common.{◌≡◌, ◌+◌, ◌*◌, ◌∙◌, Ok, sym, subst, ap, length}
use Rattle.std.proofs.Math.Nat.{mul_assoc}
use Rattle.pnm.specs.ByteBands.{bytes_of}
use Rattle.px.specs.declared.kind.PlaneKind.TheVariants.{Rgb}
use Rattle.px.specs.Area.{Covers, whole_of}
use Rattle.px.specs.Bands.{band_of, HasRow}
use Rattle.px.proofs.BandLemmas.{band_covered, band_len, band_made}
use Rattle.pnm.proofs.banding.ByBytesBandFillerU8.fill.Goals as goal

pub set_values-requires : goal.set_values-requires
set_values-requires g c =
    let s = c.args.self.now in
    let p = c.in_ok-plane.plane in
    let covers = band_covered (whole_of s.w s.h) c.args.y c.args.n c.requires.some (λ j below. (c.requires.asks j below).0) in
    let shaped = (c.requires.asks 0 c.requires.some).3 in
    let made = subst (λ r. goal.F-post g s.make (band_of (whole_of s.w s.h) c.args.y c.args.n) r) c.in_ok-plane.was c.make.ensures in
    let len : length c.values.result.now ≡ c.args.n * (s.w * 3) = band_len Rgb s.w s.h (whole_of s.w s.h) c.args.y c.args.n p c.values.result.now (shaped (band_of (whole_of s.w s.h) c.args.y c.args.n) p covers made) c.values.ensures.valid c.values.ensures.values in
    c.requires.len ∙ sym (mul_assoc c.args.n (s.w * 3) (bytes_of s.depth)) ∙ ap (λ k. k * bytes_of s.depth) (sym len)

pub returns : goal.returns
returns g c =
    let s = c.args.self.now in
    let p = c.in_ok-plane.plane in
    let covers = band_covered (whole_of s.w s.h) c.args.y c.args.n c.requires.some (λ j below. (c.requires.asks j below).0) in
    let shaped = (c.requires.asks 0 c.requires.some).3 in
    let made = subst (λ r. goal.F-post g s.make (band_of (whole_of s.w s.h) c.args.y c.args.n) r) c.in_ok-plane.was c.make.ensures in
    record {
      values = c.values.result.now;
      bytes_are = c.set_values.ensures;
      len = band_len Rgb s.w s.h (whole_of s.w s.h) c.args.y c.args.n p c.values.result.now (shaped (band_of (whole_of s.w s.h) c.args.y c.args.n) p covers made) c.values.ensures.valid c.values.ensures.values;
      bands = band_made Rgb s.w s.h (whole_of s.w s.h) _ c.args.y c.args.n p c.values.result.now covers shaped made c.values.ensures.valid c.values.ensures.values;
    }

pub invariant_of-band : goal.invariant_of-band
invariant_of-band g c =
    let area = (c.requires.asks 0 c.requires.some).1 in
    record { wide = area.wide; high = c.requires.some; right = area.right; bottom = c.requires.fits }

pub make-requires : goal.make-requires
make-requires g c =
    let s = c.args.self.now in
    let covers = band_covered (whole_of s.w s.h) c.args.y c.args.n c.requires.some (λ j below. (c.requires.asks j below).0) in
    (c.requires.asks 0 c.requires.some).2 (band_of (whole_of s.w s.h) c.args.y c.args.n) covers
