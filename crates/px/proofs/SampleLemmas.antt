-- the values of a whole picture, row by row
use Rattle.std.proofs.Common.{◌≡◌, ℕ, ◌+◌, ◌-◌, ◌*◌, ◌/◌, ◌%◌, ◌<◌, List, length, slice_index, refl, sym, ap, ◌∙◌, arith}
use Rattle.std.proofs.lemmas.List.FromFn.{fill_by_all}
use Rattle.std.proofs.lemmas.Nat.{div_below, mod_below}
use Rattle.px.specs.declared.kind.PlaneKind.TheVariants.{Rgb}
use Rattle.px.specs.Area.{HasPixel}
use Rattle.px.specs.Kind.{channels}
use Rattle.px.specs.Cut.{Cut, IsPlane, IsCutOf, IsWhole, place}
use Rattle.px.specs.Picture.{Picture, samples_of}

-- the place of a value, and the pixel and the channel of a place
place_of_index : (w i : ℕ) → 0 < w → (i / 3 / w * w + i / 3 % w) * 3 + i % 3 ≡ i
place_of_index w i wide = omega arith

row_of_index : (w h i : ℕ) → 0 < w → i < h * w * 3 → i / 3 / w < h
row_of_index w h i wide below = div_below (i / 3) w h wide (div_below i 3 (h * w) (omega arith) below)

-- values that are a picture's at each pixel and channel are its samples
pub samples_from_pixels : (w h : ℕ) (values : List ℕ) (q : Picture) → 0 < w → length values ≡ h * w * 3 → q.w ≡ w → q.h ≡ h
    → ((x y c : ℕ) → x < w → y < h → c < 3 → slice_index values ((y * w + x) * 3 + c) ≡ q.at x y c)
    → values ≡ samples_of q
samples_from_pixels w h values q some len wide high same =
    rw (wide, high) (fill_by_all (λ i. q.at (i / 3 % w) (i / 3 / w) (i % 3)) values (h * w * 3) 0 len
    (λ i below.
    let e = same (i / 3 % w) (i / 3 / w) (i % 3) (mod_below (i / 3) w some) (row_of_index w h i some below) (mod_below i 3 (omega arith)) in
    ap (slice_index values) (sym (place_of_index w i some)) ∙ e))

-- the values of a whole plane are the samples of each picture that it is the cut of
pub samples_of_whole : (p : Cut) (q : Picture) → IsPlane p → IsCutOf q p → p.kind ≡ Rgb → IsWhole p → p.values ≡ samples_of q
samples_of_whole p q valid part rgb whole =
    let wide : p.area.w ≡ p.w = ap (λ a. a.w) whole in
    let high : p.area.h ≡ p.h = ap (λ a. a.h) whole in
    let left : p.area.x ≡ 0 = ap (λ a. a.x) whole in
    let top : p.area.y ≡ 0 = ap (λ a. a.y) whole in
    let size : channels p.kind ≡ 3 = ap channels rgb in
    let kind : channels q.kind ≡ 3 = rw (← part.kind) size in
    let len : length p.values ≡ p.h * p.w * 3 = valid.len ∙ rw (wide, high, size) refl in
    let some : 0 < p.w = omega (arith, valid.area.wide) in
    samples_from_pixels p.w p.h p.values q some len (sym part.wide) (sym part.high)
    (λ x y c column row below.
    let inside : HasPixel p.area x y = record { left = omega arith; right = omega arith; top = omega arith; bottom = omega arith } in
    let column_is : x - p.area.x ≡ x = omega arith in
    let row_is : y - p.area.y ≡ y = omega arith in
    let at : place p x y + c ≡ (y * p.w + x) * 3 + c = rw (column_is, row_is, wide, size) refl in
    ap (slice_index p.values) (sym at) ∙ part.same x y c inside (rw kind below))
