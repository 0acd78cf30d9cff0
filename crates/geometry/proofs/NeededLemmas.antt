-- Lemmas on the regions that modules need.
use Rattle.std.proofs.Common.{◌≡◌, ℕ, ◌+◌, ◌-◌, ◌<◌, ◌≤◌, min, max, Bool, true, false, refl, sym, ◌∙◌, subst, arith}
use Rattle.std.specs.Bool.{if◌then◌else◌}
use Rattle.std.proofs.lemmas.Int.{ints}
use Rattle.params.specs.declared.settings.BoxBlur.{BoxBlur}
use Rattle.params.specs.declared.settings.Sharpen.{Sharpen}
use Rattle.params.specs.declared.settings.Params.{Params}
use Rattle.params.specs.declared.settings.Params.TheVariants as params
use Rattle.params.specs.Ranges.{IsWithin}
use Rattle.px.specs.declared.trace.Trace.{Trace}
use Rattle.px.specs.Trace.{Traces, TracesWithin}
use Rattle.px.specs.Area.{Area, HasPixel, IsArea, IsIn, Fits, Covers, grown}
use Rattle.geometry.specs.Sides.{IsPixelOf, kept_from, sides_after, mirrored, pixel_before}
use Rattle.geometry.specs.Behind.{IsTraceOf}
use Rattle.geometry.specs.Needed.{first_of, swapped, flipped, between, needed, reach, Suffices}
use Rattle.geometry.proofs.TraceLemmas.{traces-within, traces-column, traces-row}
use Rattle.geometry.proofs.PlaceLemmas.{is_part, keeps_part, pixel_before-inside}

pub reach-zero : (p : Params) → (p ≡ params.Demosaic → ⊥) → ((b : BoxBlur) → p ≡ params.BoxBlur b → ⊥) → ((s : Sharpen) → p ≡ params.Sharpen s → ⊥) → reach p ≡ 0
reach-zero params.Demosaic plain unblurred unsharpened = absurd (plain refl)
reach-zero (params.BoxBlur b) plain unblurred unsharpened = absurd (unblurred b refl)
reach-zero (params.Sharpen s) plain unblurred unsharpened = absurd (unsharpened s refl)
reach-zero _ plain unblurred unsharpened = refl

-- ---- along one axis

-- a run of columns or rows, flipped, has these ends, and each of it lies there
record IsFlippedRun (flip : Bool) (side at count : ℕ) : Type 0 where
  first : min (mirrored flip side at) (mirrored flip side (at + count - 1)) ≡ first_of flip side at count
  count_is : max (mirrored flip side at) (mirrored flip side (at + count - 1)) - min (mirrored flip side at) (mirrored flip side (at + count - 1)) + 1 ≡ count
  low : (n : ℕ) → at ≤ n → n < at + count → first_of flip side at count ≤ mirrored flip side n
  high : (n : ℕ) → at ≤ n → n < at + count → mirrored flip side n < first_of flip side at count + count
  within : first_of flip side at count + count ≤ side

flipped_run : (flip : Bool) (side at count : ℕ) → 0 < count → at + count ≤ side → IsFlippedRun flip side at count
flipped_run true side at count some within = record {
  first = omega arith;
  count_is = omega arith;
  low = λ n after before. omega arith;
  high = λ n after before. omega arith;
  within = omega arith;
}
flipped_run false side at count some within = record {
  first = omega arith;
  count_is = omega arith;
  low = λ n after before. after;
  high = λ n after before. before;
  within = within;
}

-- ---- a rectangle, turned

same_area : (a b : Area) → a.x ≡ b.x → a.y ≡ b.y → a.w ≡ b.w → a.h ≡ b.h → a ≡ b
same_area a b x y w h = λ i. record { x = x i; y = y i; w = w i; h = h i }

-- what a region of a turned picture needs
pub record IsTurned (swap flip_x flip_y : Bool) (w h : ℕ) (out : Area) : Type 0 where
  pub region : flipped flip_x flip_y (w, h) (if swap then swapped out else out)
      ≡ between (mirrored flip_x w (if swap then out.y else out.x), mirrored flip_y h (if swap then out.x else out.y))
      (mirrored flip_x w (if swap then out.y + out.h - 1 else out.x + out.w - 1), mirrored flip_y h (if swap then out.x + out.w - 1 else out.y + out.h - 1))
  pub has : (x y : ℕ) → HasPixel out x y → HasPixel (flipped flip_x flip_y (w, h) (if swap then swapped out else out)) (mirrored flip_x w (if swap then y else x)) (mirrored flip_y h (if swap then x else y))
  pub inside : IsIn (flipped flip_x flip_y (w, h) (if swap then swapped out else out)) w h

turned : (swap flip_x flip_y : Bool) (w h : ℕ) (out : Area) → 0 < out.w → 0 < out.h → out.x + out.w ≤ (if swap then h else w) → out.y + out.h ≤ (if swap then w else h) → IsTurned swap flip_x flip_y w h out
turned true flip_x flip_y w h out wide high across down =
    let columns = flipped_run flip_x w out.y out.h high down in
    let rows = flipped_run flip_y h out.x out.w wide across in
    record {
      region = same_area _ _ (sym columns.first) (sym rows.first) (sym columns.count_is) (sym rows.count_is);
      has = λ x y pixel. record { left = columns.low y pixel.top pixel.bottom; right = columns.high y pixel.top pixel.bottom; top = rows.low x pixel.left pixel.right; bottom = rows.high x pixel.left pixel.right };
      inside = record { across = columns.within; down = rows.within };
    }
turned false flip_x flip_y w h out wide high across down =
    let columns = flipped_run flip_x w out.x out.w wide across in
    let rows = flipped_run flip_y h out.y out.h high down in
    record {
      region = same_area _ _ (sym columns.first) (sym rows.first) (sym columns.count_is) (sym rows.count_is);
      has = λ x y pixel. record { left = columns.low x pixel.left pixel.right; right = columns.high x pixel.left pixel.right; top = rows.low y pixel.top pixel.bottom; bottom = rows.high y pixel.top pixel.bottom };
      inside = record { across = columns.within; down = rows.within };
    }

-- ---- all modules that look at one pixel for each

-- what a region needs of such a module: the rectangle between the pixels from which its ends come
pub record IsTracedArea (p : Params) (sides : ℕ × ℕ) (out : Area) : Type 0 where
  pub region : needed p sides out ≡ between (pixel_before p sides (out.x, out.y)) (pixel_before p sides (out.x + out.w - 1, out.y + out.h - 1))
  pub has : (x y : ℕ) → HasPixel out x y → HasPixel (needed p sides out) (pixel_before p sides (x, y)).0 (pixel_before p sides (x, y)).1
  pub inside : IsIn (needed p sides out) sides.0 sides.1

moved : (x y : ℕ) (out : Area) → 0 < out.w → 0 < out.h → record { x = out.x + x; y = out.y + y; w = out.w; h = out.h } ≡ between (x + out.x, y + out.y) (x + (out.x + out.w - 1), y + (out.y + out.h - 1))
moved x y out wide high = same_area _ _ (omega arith) (omega arith) (omega arith) (omega arith)

unmoved : (out : Area) → 0 < out.w → 0 < out.h → out ≡ between (out.x, out.y) (out.x + out.w - 1, out.y + out.h - 1)
unmoved out wide high = same_area _ _ (omega arith) (omega arith) (omega arith) (omega arith)

pub traced_area : (p : Params) (sides : ℕ × ℕ) (out : Area) → IsWithin p → Fits 0 0 sides.0 sides.1 → 0 < out.w → 0 < out.h → IsIn out (sides_after p sides).0 (sides_after p sides).1 → reach p ≡ 0 → IsTracedArea p sides out
traced_area params.Demosaic sides out within fits wide high inside none = absurd (omega arith)
traced_area (params.BoxBlur b) sides out within fits wide high inside none = absurd (omega (arith, ints, none, within.kept.0.0))
traced_area (params.Sharpen s) sides out within fits wide high inside none = absurd (omega (arith, ints, none, within.kept.0.0))
traced_area (params.Orientation o) sides out within fits wide high inside none =
    let t = turned o.swap o.flip_x o.flip_y sides.0 sides.1 out wide high inside.across inside.down in
    record { region = t.region; has = t.has; inside = t.inside }
traced_area (params.Crop c) sides out within fits wide high inside none =
    let part = is_part c within in
    let columns = keeps_part c.left c.right sides.0 part.left part.right fits.wide in
    let rows = keeps_part c.top c.bottom sides.1 part.top part.bottom fits.high in
    record {
      region = moved (kept_from c.left sides.0) (kept_from c.top sides.1) out wide high;
      has = λ x y pixel. record { left = omega arith; right = omega arith; top = omega arith; bottom = omega arith };
      inside = record { across = omega arith; down = omega arith };
    }
traced_area _ sides out within fits wide high inside none = record {
  region = unmoved out wide high;
  has = λ x y pixel. pixel;
  inside = inside;
}

-- each pixel that such a module looks at is the one from which the pixel comes
pub traced-suffices : (p : Params) (sides : ℕ × ℕ) (out : Area) → reach p ≡ 0 → IsTracedArea p sides out → Suffices p sides out (needed p sides out)
traced-suffices p sides out none traced x y u v pixel looks =
    let column : (pixel_before p sides (x, y)).0 ≡ u = omega (arith, none, looks.left, looks.right) in
    let row : (pixel_before p sides (x, y)).1 ≡ v = omega (arith, none, looks.top, looks.bottom) in
    subst (λ b. HasPixel (needed p sides out) u b) row (subst (λ a. HasPixel (needed p sides out) a (pixel_before p sides (x, y)).1) column (traced.has x y pixel))

-- ---- by a module's trace

pub pixel-of : (p : Params) (sides : ℕ × ℕ) (out : Area) (x y : ℕ) → IsIn out (sides_after p sides).0 (sides_after p sides).1 → HasPixel out x y → IsPixelOf (sides_after p sides) (x, y)
pixel-of p sides out x y inside pixel = record { across = omega arith; down = omega arith }

-- the trace leads the pixels of the region into pictures of the longest side
pub corner-within : (p : Params) (sides : ℕ × ℕ) (out : Area) (t : Trace) (x y : ℕ) → IsWithin p → Fits 0 0 sides.0 sides.1 → IsIn out (sides_after p sides).0 (sides_after p sides).1
    → IsTraceOf p sides t → HasPixel out x y → TracesWithin t x y 16384 16384
corner-within p sides out t x y within fits inside traces pixel =
    let now = pixel-of p sides out x y inside pixel in
    let before = pixel_before-inside p sides x y within fits now in
    traces-within t x y _ _ 16384 16384 (traces x y now) (omega (arith, before.across, fits.right)) (omega (arith, before.down, fits.bottom))

pub first-pixel : (out : Area) → IsArea out → HasPixel out out.x out.y
first-pixel out area = record { left = omega arith; right = omega arith; top = omega arith; bottom = omega arith }

pub last-pixel : (out : Area) → IsArea out → HasPixel out (out.x + out.w - 1) (out.y + out.h - 1)
last-pixel out area = record { left = omega arith; right = omega arith; top = omega arith; bottom = omega arith }

-- where the trace leads a pixel of the region is where it comes from
traced-pixel : (p : Params) (sides : ℕ × ℕ) (out : Area) (t : Trace) (x y : ℕ) (from : ℕ × ℕ) → IsIn out (sides_after p sides).0 (sides_after p sides).1
    → IsTraceOf p sides t → HasPixel out x y → Traces t x y from.0 from.1 → pixel_before p sides (x, y) ≡ from
traced-pixel p sides out t x y from inside traces pixel to =
    let is = traces x y (pixel-of p sides out x y inside pixel) in
    let column = traces-column t x y _ _ from.0 from.1 is to in
    let row = traces-row t x y _ _ from.0 from.1 is to in
    λ i. (column i, row i)

pub needed-between : (p : Params) (sides : ℕ × ℕ) (out : Area) (t : Trace) (first last : ℕ × ℕ) → IsArea out → IsIn out (sides_after p sides).0 (sides_after p sides).1
    → IsTraceOf p sides t → Traces t out.x out.y first.0 first.1 → Traces t (out.x + out.w - 1) (out.y + out.h - 1) last.0 last.1
    → IsTracedArea p sides out → between first last ≡ needed p sides out
needed-between p sides out t first last area inside traces to_first to_last is =
    let one = traced-pixel p sides out t out.x out.y first inside traces (first-pixel out area) to_first in
    let other = traced-pixel p sides out t (out.x + out.w - 1) (out.y + out.h - 1) last inside traces (last-pixel out area) to_last in
    sym (is.region ∙ (λ i. between (one i) (other i)))

-- ---- what a part of a region needs

-- a part of a picture of these sides, with at least one pixel
pub record IsPartOf (sides : ℕ × ℕ) (a : Area) : Type 0 where
  pub wide : 0 < a.w
  pub high : 0 < a.h
  pub inside : IsIn a sides.0 sides.1

grown-part : (out : Area) (by w h : ℕ) → IsPartOf (w, h) out → IsPartOf (w, h) (grown out by w h)
grown-part out by w h part =
    record { wide = omega (arith, part.wide, part.inside.across); high = omega (arith, part.high, part.inside.down); inside = record { across = omega (arith, part.wide, part.inside.across); down = omega (arith, part.high, part.inside.down) } }

turned-wide : (swap flip_x flip_y : Bool) (sides : ℕ × ℕ) (out : Area) → 0 < out.w → 0 < out.h → 0 < (flipped flip_x flip_y sides (if swap then swapped out else out)).w
turned-wide true flip_x flip_y sides out wide high = high
turned-wide false flip_x flip_y sides out wide high = wide

turned-high : (swap flip_x flip_y : Bool) (sides : ℕ × ℕ) (out : Area) → 0 < out.w → 0 < out.h → 0 < (flipped flip_x flip_y sides (if swap then swapped out else out)).h
turned-high true flip_x flip_y sides out wide high = wide
turned-high false flip_x flip_y sides out wide high = high

-- what a part of the output needs is a part of the input
pub needed-part : (p : Params) (sides : ℕ × ℕ) (out : Area) → IsWithin p → Fits 0 0 sides.0 sides.1 → IsPartOf (sides_after p sides) out → IsPartOf sides (needed p sides out)
needed-part params.Demosaic sides out within fits part = grown-part out 1 sides.0 sides.1 part
needed-part (params.BoxBlur b) sides out within fits part = grown-part out b.radius sides.0 sides.1 part
needed-part (params.Sharpen s) sides out within fits part = grown-part out s.radius sides.0 sides.1 part
needed-part (params.Orientation o) sides out within fits part = record {
  wide = turned-wide o.swap o.flip_x o.flip_y sides out part.wide part.high;
  high = turned-high o.swap o.flip_x o.flip_y sides out part.wide part.high;
  inside = (traced_area (params.Orientation o) sides out within fits part.wide part.high part.inside refl).inside;
}
needed-part (params.Crop c) sides out within fits part = record { wide = part.wide; high = part.high; inside = (traced_area (params.Crop c) sides out within fits part.wide part.high part.inside refl).inside }
needed-part _ sides out within fits part = part

-- along one axis, flipped
record IsFlippedPart (flip : Bool) (side a n b m : ℕ) : Type 0 where
  first : first_of flip side a n ≤ first_of flip side b m
  last : first_of flip side b m + m ≤ first_of flip side a n + n

flipped_part : (flip : Bool) (side a n b m : ℕ) → a ≤ b → b + m ≤ a + n → IsFlippedPart flip side a n b m
flipped_part true side a n b m first last = record { first = omega arith; last = omega arith }
flipped_part false side a n b m first last = record { first = first; last = last }

turned-covers : (swap flip_x flip_y : Bool) (sides : ℕ × ℕ) (a b : Area) → Covers a b → Covers (flipped flip_x flip_y sides (if swap then swapped a else a)) (flipped flip_x flip_y sides (if swap then swapped b else b))
turned-covers true flip_x flip_y sides a b covers =
    let columns = flipped_part flip_x sides.0 a.y a.h b.y b.h covers.top covers.bottom in
    let rows = flipped_part flip_y sides.1 a.x a.w b.x b.w covers.left covers.right in
    record { left = columns.first; right = columns.last; top = rows.first; bottom = rows.last }
turned-covers false flip_x flip_y sides a b covers =
    let columns = flipped_part flip_x sides.0 a.x a.w b.x b.w covers.left covers.right in
    let rows = flipped_part flip_y sides.1 a.y a.h b.y b.h covers.top covers.bottom in
    record { left = columns.first; right = columns.last; top = rows.first; bottom = rows.last }

grown-covers : (a b : Area) (by w h : ℕ) → IsPartOf (w, h) a → Covers a b → Covers (grown a by w h) (grown b by w h)
grown-covers a b by w h outer covers = record {
  left = omega (arith, covers.left);
  right = omega (arith, covers.left, covers.right, outer.inside.across);
  top = omega (arith, covers.top);
  bottom = omega (arith, covers.top, covers.bottom, outer.inside.down);
}

-- what a region needs covers what a part of it needs
pub needed-covers : (p : Params) (sides : ℕ × ℕ) (a b : Area) → IsPartOf (sides_after p sides) a → Covers a b → Covers (needed p sides a) (needed p sides b)
needed-covers params.Demosaic sides a b outer covers = grown-covers a b 1 sides.0 sides.1 outer covers
needed-covers (params.BoxBlur p) sides a b outer covers = grown-covers a b p.radius sides.0 sides.1 outer covers
needed-covers (params.Sharpen p) sides a b outer covers = grown-covers a b p.radius sides.0 sides.1 outer covers
needed-covers (params.Orientation o) sides a b outer covers = turned-covers o.swap o.flip_x o.flip_y sides a b covers
needed-covers (params.Crop c) sides a b outer covers = record { left = omega (arith, covers.left); right = omega (arith, covers.right); top = omega (arith, covers.top); bottom = omega (arith, covers.bottom) }
needed-covers _ sides a b outer covers = covers
