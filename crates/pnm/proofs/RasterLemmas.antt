-- rasters and the planes that they mean
use Rattle.std.proofs.Common.{◌≡◌, ℕ, ◌+◌, ◌-◌, ◌*◌, ◌/◌, ◌%◌, ◌<◌, ◌≤◌, inl, inr, min, Option, None, Some, List, length, slice_index, refl, sym, ap, ◌∙◌, subst, ⊎_elim, arith}
use Rattle.std.proofs.Math.Nat.{mul-le-mul_left}
use Rattle.std.proofs.lemmas.Bool.{cases_lt, le-ltb, lt-ltb}
use Rattle.std.proofs.lemmas.List.FromFn.{get_or-map-range_with_len, length-map-range_with_len}
use Rattle.std.proofs.lemmas.Nat.{div_below, div-mul-add, div-add-mod', mod_below, mul-add-lt}
use Rattle.px.specs.declared.kind.Cfa.{Cfa}
use Rattle.px.specs.declared.kind.PlaneKind.{PlaneKind}
use Rattle.px.specs.declared.kind.PlaneKind.TheVariants.{Rgb}
use Rattle.px.specs.Area.{Area, HasPixel, whole_of}
use Rattle.px.specs.Cut.{Cut, IsCutOf, IsWhole, picture_of, place}
use Rattle.px.specs.Kind.{channels}
use Rattle.px.specs.Picture.{Picture}
use Rattle.pnm.specs.Header.{IsHeader}
use Rattle.pnm.specs.Pnm.{IsPicture}
use Rattle.pnm.specs.Raster.{IsReadable, plane_meant, values_meant}
use Rattle.pnm.specs.Samples.{AreValues, IsRaster, bytes_of_sample, meaning, read_kind, sample_at, samples_of_magic}
use Rattle.pnm.proofs.PictureLemmas.{same_meaning}
use Rattle.pnm.proofs.ValueLemmas.{channels_some, values_top}

-- ---- what a raster means

mod_of_pixel : (i size c : ℕ) → c < size → (i * size + c) % size ≡ c
mod_of_pixel i size c few =
    let quotient : (i * size + c) / size ≡ i = div-mul-add i size c few in
    let whole : ((i * size + c) / size) * size + (i * size + c) % size ≡ i * size + c = div-add-mod' (i * size + c) size in
    let times : ((i * size + c) / size) * size ≡ i * size = ap (λ k. k * size) quotient in
    omega arith

meant_at : (kind : PlaneKind) (samples top count : ℕ) (raster : List ℕ) (i c : ℕ) → i < count → c < channels kind
    → slice_index (values_meant kind samples top count raster) (i * channels kind + c) ≡ meaning kind top (sample_at top raster (i * samples + min c (samples - 1)))
unfolding values_meant
meant_at kind samples top count raster i c below few =
    let place = i * channels kind + c in
    let within : place < count * channels kind = omega (arith, mul-add-lt i (channels kind) c count below few) in
    let at = get_or-map-range_with_len (λ i. meaning kind top (sample_at top raster (i / channels kind * samples + min (i % channels kind) (samples - 1)))) 0 (count * channels kind) place place 0 within (omega arith) in
    at ∙ rw (div-mul-add i (channels kind) c few, mod_of_pixel i (channels kind) c few) refl

meant_len : (kind : PlaneKind) (samples top count : ℕ) (raster : List ℕ) → length (values_meant kind samples top count raster) ≡ count * channels kind
unfolding values_meant
meant_len kind samples top count raster = length-map-range_with_len _ 0 (count * channels kind)

-- what a raster means are its values
pub meant_are : (kind : PlaneKind) (samples top count : ℕ) (raster : List ℕ) → AreValues kind samples top count raster (values_meant kind samples top count raster)
meant_are kind samples top count raster = record { len = meant_len kind samples top count raster; same = meant_at kind samples top count raster }

-- ---- the raster behind a header

rgb_of_three : (cfa : Option Cfa) → read_kind 54 cfa ≡ Rgb
rgb_of_three None = refl
rgb_of_three (Some cfa) = refl

raster_behind : (bytes : List ℕ) (cfa : Option Cfa) (kind : PlaneKind) (w h samples top : ℕ) (raster : List ℕ) → IsHeader bytes cfa kind w h samples top raster → IsRaster kind samples top (h * w) raster
raster_behind bytes cfa kind w h samples top raster header = record {
  len = header.len;
  some = header.some_top;
  small = header.top_fits;
  few = omega (arith, header.pixels);
  shape = ⊎_elim
      (λ (five : slice_index bytes 1 ≡ 53). inl (header.samples_is ∙ ap samples_of_magic five))
      (λ (six : slice_index bytes 1 ≡ 54). inr (header.samples_is ∙ ap samples_of_magic six, header.kind_is ∙ ap (λ m. read_kind m cfa) six ∙ rgb_of_three cfa))
      header.words.second;
}

pub readable : (bytes : List ℕ) (cfa : Option Cfa) (kind : PlaneKind) (w h samples top : ℕ) (raster : List ℕ) → IsHeader bytes cfa kind w h samples top raster → IsReadable kind w h samples top raster
readable bytes cfa kind w h samples top raster header = record {
  raster_is = raster_behind bytes cfa kind w h samples top raster header;
  plane = record {
    area = record { wide = header.some_wide; high = header.some_high; right = omega (arith, header.wide); bottom = omega (arith, header.high) };
    inside = record { across = omega arith; down = omega arith };
    wide = header.wide;
    high = header.high;
    wide_enough = header.wide_enough;
    high_enough = header.high_enough;
    len = meant_len kind samples top (h * w) raster;
    top = values_top kind samples top (h * w) raster _ (meant_are kind samples top (h * w) raster) header.some_top header.top_fits;
  };
}

-- ---- rows of it

-- a sample of a part of a raster
sample_moved : (top from m n : ℕ) (part raster : List ℕ) → ((j : ℕ) → j < n * bytes_of_sample top → slice_index part j ≡ slice_index raster (from * bytes_of_sample top + j)) → m < n
    → sample_at top part m ≡ sample_at top raster (from + m)
sample_moved top from m n part raster same below = ⊎_elim
    (λ (small : top < 256).
    let one = lt-ltb top 256 small in
    let size : bytes_of_sample top ≡ 1 = rw one refl in
    let each = subst (λ b. (j : ℕ) → j < n * b → slice_index part j ≡ slice_index raster (from * b + j)) size same in
    let at : from * 1 + m ≡ from + m = omega arith in
    rw one (each m (omega arith) ∙ ap (slice_index raster) at))
    (λ (large : 256 ≤ top).
    let two = le-ltb top 256 large in
    let size : bytes_of_sample top ≡ 2 = rw two refl in
    let each = subst (λ b. (j : ℕ) → j < n * b → slice_index part j ≡ slice_index raster (from * b + j)) size same in
    let high : from * 2 + m * 2 ≡ (from + m) * 2 = omega arith in
    let low : from * 2 + (m * 2 + 1) ≡ (from + m) * 2 + 1 = omega arith in
    rw two (rw (each (m * 2) (omega arith), each (m * 2 + 1) (omega arith), high, low) refl))
    (cases_lt top 256)

samples_some : (kind : PlaneKind) (samples top count : ℕ) (raster : List ℕ) → IsRaster kind samples top count raster → 0 < samples
samples_some kind samples top count raster is = ⊎_elim (λ (one : samples ≡ 1). omega arith) (λ (three : (samples ≡ 3) × (kind ≡ Rgb)). omega (arith, three.0)) is.shape

-- the values of n pixels from a pixel on
pub row_meant : (kind : PlaneKind) (samples top count from n : ℕ) (raster part row : List ℕ) → IsRaster kind samples top count raster → from + n ≤ count
    → ((j : ℕ) → j < n * (samples * bytes_of_sample top) → slice_index part j ≡ slice_index raster (from * (samples * bytes_of_sample top) + j))
    → AreValues kind samples top n part row
    → (i : ℕ) → i < n * channels kind → slice_index row i ≡ slice_index (values_meant kind samples top count raster) (from * channels kind + i)
row_meant kind samples top count from n raster part row is fits same made i below =
    let size = channels kind in
    let k = i / size in
    let c = i % size in
    let k_lt : k < n = div_below i size n (channels_some kind) below in
    let c_lt : c < size = mod_below i size (channels_some kind) in
    let some = samples_some kind samples top count raster is in
    let channel = min c (samples - 1) in
    let i_is : i ≡ k * size + c = sym (div-add-mod' i size) in
    let own : (j : ℕ) → j < n * samples * bytes_of_sample top → slice_index part j ≡ slice_index raster (from * samples * bytes_of_sample top + j) = λ j within.
    let at : from * (samples * bytes_of_sample top) + j ≡ from * samples * bytes_of_sample top + j = omega arith in
    same j (omega arith) ∙ ap (slice_index raster) at in
    let value : k * samples + channel < n * samples = omega (arith, mul-add-lt k samples channel n k_lt (omega arith)) in
    let moved : sample_at top part (k * samples + channel) ≡ sample_at top raster (from * samples + (k * samples + channel)) =
    sample_moved top (from * samples) (k * samples + channel) (n * samples) part raster own value in
    let along : from * samples + (k * samples + channel) ≡ (from + k) * samples + channel = omega arith in
    let there : (from + k) * size + c ≡ from * size + i = omega arith in
    ap (slice_index row) i_is ∙ made.same k c k_lt c_lt
    ∙ ap (meaning kind top) (moved ∙ ap (sample_at top raster) along)
    ∙ sym (meant_at kind samples top count raster (from + k) c (omega arith) c_lt)
    ∙ ap (slice_index (values_meant kind samples top count raster)) there

-- the same by the pixel's place in the plane that the raster means
pub row_placed : (kind : PlaneKind) (w h samples top x y n : ℕ) (raster row : List ℕ)
    → ((i : ℕ) → i < n * channels kind → slice_index row i ≡ slice_index (values_meant kind samples top (h * w) raster) ((y * w + x) * channels kind + i))
    → (i : ℕ) → i < n * channels kind → slice_index row i ≡ slice_index (values_meant kind samples top (h * w) raster) (place (plane_meant kind w h samples top raster) x y + i)
row_placed kind w h samples top x y n raster row same i below =
    let column : x - 0 ≡ x = omega arith in
    let line : y - 0 ≡ y = omega arith in
    let at : ((y - 0) * w + (x - 0)) * channels kind + i ≡ (y * w + x) * channels kind + i = rw (column, line) refl in
    same i below ∙ ap (slice_index (values_meant kind samples top (h * w) raster)) (sym at)

-- n pixels of a row lie in the picture
pub run_within : (x y n w h : ℕ) → y < h → x + n ≤ w → y * w + x + n ≤ h * w
run_within x y n w h below right = let up : y + 1 ≤ h = omega arith in omega (arith, mul-le-mul_left w up)

-- so many bytes of a row lie in the raster
pub row_within : (kind : PlaneKind) (samples top count from n : ℕ) (raster : List ℕ) → IsRaster kind samples top count raster → from + n ≤ count
    → from * (samples * bytes_of_sample top) + n * (samples * bytes_of_sample top) ≤ length raster
row_within kind samples top count from n raster is fits =
    let size = samples * bytes_of_sample top in
    let rest : count ≡ from + n + (count - (from + n)) = omega arith in
    let len : length raster ≡ (from + n + (count - (from + n))) * size = is.len ∙ ap (λ k. k * samples * bytes_of_sample top) rest ∙ (omega arith) in
    omega arith

-- ---- cuts of it

pub itself : (p : Cut) → IsCutOf (picture_of p) p
itself p = record { kind = refl; wide = refl; high = refl; same = λ x y c inside below. refl }

-- the cut of the whole is whole
pub whole_again : (r p : Cut) (sides : ℕ × ℕ) → sides ≡ (r.w, r.h) → p.area ≡ whole_of sides.0 sides.1 → IsCutOf (picture_of r) p → IsWhole p
whole_again r p sides is area cut = area ∙ ap (λ (s : ℕ × ℕ). whole_of s.0 s.1) (is ∙ (λ x. (sym cut.wide x, sym cut.high x)))

-- a whole plane that is cut out of a picture of the bytes is that picture
pub picture_again : (bytes : List ℕ) (cfa : Option Cfa) (q : Picture) (p : Cut) → IsPicture bytes cfa q → IsCutOf q p → IsWhole p → IsPicture bytes cfa (picture_of p)
picture_again bytes cfa q p shows cut whole = record {
  magic = shows.magic;
  first_gap = shows.first_gap;
  width = shows.width;
  second_gap = shows.second_gap;
  height = shows.height;
  third_gap = shows.third_gap;
  greatest = shows.greatest;
  white = shows.white;
  raster = shows.raster;
  rest = shows.rest;
  text = shows.text;
  is_magic = shows.is_magic;
  has_gaps = shows.has_gaps;
  ends_white = shows.ends_white;
  is_width = rw cut.wide shows.is_width;
  is_height = rw cut.high shows.is_height;
  top = shows.top;
  is_greatest = shows.is_greatest;
  some_top = shows.some_top;
  top_fits = shows.top_fits;
  kind = cut.kind ∙ shows.kind;
  wide = rw cut.wide shows.wide;
  high = rw cut.high shows.high;
  wide_enough = rw (cut.kind, cut.wide) shows.wide_enough;
  high_enough = rw (cut.kind, cut.high) shows.high_enough;
  pixels = rw (cut.wide, cut.high) shows.pixels;
  len = rw (cut.wide, cut.high) shows.len;
  same = λ x y c column row below.
      let left : p.area.x ≡ 0 = ap (λ (a : Area). a.x) whole in
      let top : p.area.y ≡ 0 = ap (λ (a : Area). a.y) whole in
      let wide : p.area.w ≡ p.w = ap (λ (a : Area). a.w) whole in
      let high : p.area.h ≡ p.h = ap (λ (a : Area). a.h) whole in
      let inside : HasPixel p.area x y = record { left = omega arith; right = omega arith; top = omega arith; bottom = omega arith } in
      let few : c < channels q.kind = rw (← cut.kind) below in
      cut.same x y c inside few
      ∙ shows.same x y c (rw (← cut.wide) column) (rw (← cut.high) row) few
      ∙ same_meaning q.kind p.kind shows.top shows.top _ _ q.w p.w x y c shows.raster shows.raster (sym cut.kind) refl refl (sym cut.wide) refl;
}
