-- Lemmas on traces.
use Rattle.std.proofs.Common.{◌≡◌, ℕ, ◌<◌, ℤ, pos, negsuc, Bool, true, false, not, List, [], ◌∷◌, ◌++◌, refl, sym, ap, ◌∙◌, subst, arith}
use Rattle.std.specs.Bool.{if◌then◌else◌, beq}
use mir.Syntax.{w32}
use mir.Val.{to_z}
use Rattle.std.proofs.lemmas.Int.{ints}
use Rattle.params.specs.declared.settings.Crop.{Crop}
use Rattle.params.specs.declared.settings.Orientation.{Orientation}
use Rattle.params.specs.declared.settings.Params.{Params}
use Rattle.params.specs.declared.settings.Params.TheVariants as params
use Rattle.params.specs.Ranges.{IsWithin}
use Rattle.px.specs.declared.trace.Trace.{Trace}
use Rattle.px.specs.Area.{Fits}
use Rattle.px.specs.Trace.{counted, column_before, row_before, Traces, TracesWithin, IsOnSide}
use Rattle.geometry.specs.Sides.{IsPixelOf, kept_area, sides_after, mirrored, pixel_before, place_behind}
use Rattle.geometry.specs.Behind.{straight, end_of, IsTraceOf, IsThrough, GeometrySeen, IsGeometry, IsBehind}
use Rattle.geometry.proofs.PlaceLemmas.{sides_behind-append, place_behind-append, pixel_before-inside}

-- ---- a pixel that comes from within, and the pixel from which it comes

on_side : (n side : ℕ) → n < side → IsOnSide (pos n) side
on_side n side below = record { low = omega (arith, ints); high = omega (arith, ints) }

pub traces-within : (t : Trace) (x y u v w h : ℕ) → Traces t x y u v → u < w → v < h → TracesWithin t x y w h
traces-within t x y u v w h traces across down = record {
  column = subst (λ z. IsOnSide z w) (sym traces.column) (on_side u w across);
  row = subst (λ z. IsOnSide z h) (sym traces.row) (on_side v h down);
}

-- the place on a side, as a number
record IsNumberOf (z : ℤ) (side : ℕ) : Type 0 where
  n : ℕ
  is : z ≡ pos n
  below : n < side

number_of : (z : ℤ) (side : ℕ) → IsOnSide z side → IsNumberOf z side
number_of (pos n) side on = record { n = n; is = refl; below = omega (arith, ints, on.high) }
number_of (negsuc n) side on = absurd (omega (arith, ints, on.low))

-- the pixel from which one comes that comes from within these sides
pub record Source (t : Trace) (x y w h : ℕ) : Type 0 where
  pub u : ℕ
  pub v : ℕ
  pub traces : Traces t x y u v
  pub across : u < w
  pub down : v < h

pub source_of : (t : Trace) (x y w h : ℕ) → TracesWithin t x y w h → Source t x y w h
source_of t x y w h within =
    let column = number_of (column_before t x y) w within.column in
    let row = number_of (row_before t x y) h within.row in
    record { u = column.n; v = row.n; traces = record { column = column.is; row = row.is }; across = column.below; down = row.below }

pos-injective : (m n : ℕ) → pos m ≡ pos n → m ≡ n
pos-injective m n e = cc

pub traces-column : (t : Trace) (x y a b u v : ℕ) → Traces t x y a b → Traces t x y u v → a ≡ u
traces-column t x y a b u v one other = pos-injective a u (sym one.column ∙ other.column)

pub traces-row : (t : Trace) (x y a b u v : ℕ) → Traces t x y a b → Traces t x y u v → b ≡ v
traces-row t x y a b u v one other = pos-injective b v (sym one.row ∙ other.row)

-- ---- the trace of one module

counted-end : (flip : Bool) (side n : ℕ) → n < side → counted (end_of flip side) flip n ≡ pos (mirrored flip side n)
counted-end true side n below = omega (arith, ints)
counted-end false side n below = omega (arith, ints)

pub kept-traces : (p : Params) (c : Crop) (sides : ℕ × ℕ) → p ≡ params.Crop c → IsTraceOf p sides (straight (kept_area c sides).x (kept_area c sides).y 0)
kept-traces p c sides is = subst (λ q. IsTraceOf q sides (straight (kept_area c sides).x (kept_area c sides).y 0)) (sym is) (λ x y pixel. record { column = refl; row = refl })

from_zero : (n : ℕ) → counted (pos 0) false n ≡ pos n
from_zero n = omega (arith, ints)

pub straight-traces : (p : Params) (sides : ℕ × ℕ) → ((o : Orientation) → p ≡ params.Orientation o → ⊥) → ((c : Crop) → p ≡ params.Crop c → ⊥) → IsTraceOf p sides (straight 0 0 0)
straight-traces (params.Orientation o) sides not_turned not_cropped = absurd (not_turned o refl)
straight-traces (params.Crop c) sides not_turned not_cropped = absurd (not_cropped c refl)
straight-traces _ sides not_turned not_cropped = λ x y pixel. record { column = from_zero x; row = from_zero y }

-- ---- one trace and on through another

-- along one axis: what counts from where the first pixel comes from, and flips where one of the two does
axis-through : (far near : Bool) (outer inner : ℤ) (n x0 u0 x u : ℕ) → counted inner near 0 ≡ pos x0 → counted outer far x0 ≡ pos u0
    → counted inner near n ≡ pos x → counted outer far x ≡ pos u → counted (pos u0) (not (beq far near)) n ≡ pos u
axis-through true true outer inner n x0 u0 x u e f g h = omega (arith, ints)
axis-through true false outer inner n x0 u0 x u e f g h = omega (arith, ints)
axis-through false true outer inner n x0 u0 x u e f g h = omega (arith, ints)
axis-through false false outer inner n x0 u0 x u e f g h = omega (arith, ints)

abbrev pub joined : Trace → Trace → ℕ → ℕ → Trace
joined outer inner u v = record {
  swap = not (beq outer.swap inner.swap);
  flip_x = not (beq outer.flip_x (if outer.swap then inner.flip_y else inner.flip_x));
  flip_y = not (beq outer.flip_y (if outer.swap then inner.flip_x else inner.flip_y));
  add_x = pos u;
  add_y = pos v;
  level = outer.level;
}

-- the same of the fields of two traces
joined-through : (far near far_x far_y near_x near_y : Bool) (far_left far_top near_left near_top : ℤ) (level other x0 y0 u0 v0 : ℕ)
    → Traces (record { swap = near; flip_x = near_x; flip_y = near_y; add_x = near_left; add_y = near_top; level = other }) 0 0 x0 y0
    → Traces (record { swap = far; flip_x = far_x; flip_y = far_y; add_x = far_left; add_y = far_top; level = level }) x0 y0 u0 v0
    → IsThrough (record { swap = far; flip_x = far_x; flip_y = far_y; add_x = far_left; add_y = far_top; level = level })
    (record { swap = near; flip_x = near_x; flip_y = near_y; add_x = near_left; add_y = near_top; level = other })
    (joined (record { swap = far; flip_x = far_x; flip_y = far_y; add_x = far_left; add_y = far_top; level = level })
    (record { swap = near; flip_x = near_x; flip_y = near_y; add_x = near_left; add_y = near_top; level = other }) u0 v0)
joined-through true true far_x far_y near_x near_y far_left far_top near_left near_top level other x0 y0 u0 v0 first second = record {
  level = refl;
  traces = λ x y a b u v near far. record {
    column = axis-through far_x near_y far_left near_top x y0 u0 b u first.row second.column near.row far.column;
    row = axis-through far_y near_x far_top near_left y x0 v0 a v first.column second.row near.column far.row;
  };
}
joined-through true false far_x far_y near_x near_y far_left far_top near_left near_top level other x0 y0 u0 v0 first second = record {
  level = refl;
  traces = λ x y a b u v near far. record {
    column = axis-through far_x near_y far_left near_top y y0 u0 b u first.row second.column near.row far.column;
    row = axis-through far_y near_x far_top near_left x x0 v0 a v first.column second.row near.column far.row;
  };
}
joined-through false true far_x far_y near_x near_y far_left far_top near_left near_top level other x0 y0 u0 v0 first second = record {
  level = refl;
  traces = λ x y a b u v near far. record {
    column = axis-through far_x near_x far_left near_left y x0 u0 a u first.column second.column near.column far.column;
    row = axis-through far_y near_y far_top near_top x y0 v0 b v first.row second.row near.row far.row;
  };
}
joined-through false false far_x far_y near_x near_y far_left far_top near_left near_top level other x0 y0 u0 v0 first second = record {
  level = refl;
  traces = λ x y a b u v near far. record {
    column = axis-through far_x near_x far_left near_left x x0 u0 a u first.column second.column near.column far.column;
    row = axis-through far_y near_y far_top near_top y y0 v0 b v first.row second.row near.row far.row;
  };
}

through-joined : (outer inner : Trace) (x0 y0 u0 v0 : ℕ) → Traces inner 0 0 x0 y0 → Traces outer x0 y0 u0 v0 → IsThrough outer inner (joined outer inner u0 v0)
through-joined outer inner x0 y0 u0 v0 first second =
    joined-through outer.swap inner.swap outer.flip_x outer.flip_y inner.flip_x inner.flip_y outer.add_x outer.add_y inner.add_x inner.add_y outer.level inner.level x0 y0 u0 v0 first second

below_side : (z : ℤ) (n side : ℕ) → z ≡ pos n → IsOnSide z side → n < side
below_side z n side is on = let here : IsOnSide (pos n) side = subst (λ y. IsOnSide y side) is on in omega (arith, ints)

pub traced-below : (t : Trace) (x y u v w h : ℕ) → Traces t x y u v → TracesWithin t x y w h → (u < w) × (v < h)
traced-below t x y u v w h traces within = (below_side (column_before t x y) u w traces.column within.column, below_side (row_before t x y) v h traces.row within.row)

cast_small : (n : ℕ) → n < 16384 → pos n ≡ to_z w32 n
cast_small n small = omega (arith, ints)

pub through-made : (outer inner : Trace) (flip_x flip_y : Bool) (x0 y0 u0 v0 : ℕ) → Traces inner 0 0 x0 y0 → Traces outer x0 y0 u0 v0 → TracesWithin outer x0 y0 16384 16384
    → flip_x ≡ (if outer.swap then inner.flip_y else inner.flip_x) → flip_y ≡ (if outer.swap then inner.flip_x else inner.flip_y)
    → IsThrough outer inner (record { swap = not (beq outer.swap inner.swap); flip_x = not (beq outer.flip_x flip_x); flip_y = not (beq outer.flip_y flip_y); add_x = to_z w32 u0; add_y = to_z w32 v0; level = outer.level })
through-made outer inner flip_x flip_y x0 y0 u0 v0 first second within x_is y_is =
    let x_was = sym x_is in
    let y_was = sym y_is in
    let left = cast_small u0 (below_side (column_before outer x0 y0) u0 16384 second.column within.column) in
    let top = cast_small v0 (below_side (row_before outer x0 y0) v0 16384 second.row within.row) in
    subst (λ t. IsThrough outer inner t)
    (λ i. record { swap = not (beq outer.swap inner.swap); flip_x = not (beq outer.flip_x (x_was i)); flip_y = not (beq outer.flip_y (y_was i)); add_x = left i; add_y = top i; level = outer.level })
    (through-joined outer inner x0 y0 u0 v0 first second)

-- ---- one module more

-- a pixel behind one module more comes from within the input
pub push-inside : (p : Params) (old : GeometrySeen) (out : ℕ × ℕ) (inner t : Trace) → IsWithin p → IsGeometry old → out ≡ sides_after p old.out
    → IsTraceOf p old.out inner → IsThrough old.trace inner t → (x y : ℕ) → IsPixelOf out (x, y) → TracesWithin t x y old.input.0 old.input.1
push-inside p old out inner t within valid out_is inner_is through x y pixel =
    let now : IsPixelOf (sides_after p old.out) (x, y) = subst (λ (s : ℕ × ℕ). IsPixelOf s (x, y)) out_is pixel in
    let b : ℕ × ℕ = pixel_before p old.out (x, y) in
    let before : IsPixelOf old.out (b.0, b.1) = pixel_before-inside p old.out x y within valid.out now in
    let source : Source old.trace b.0 b.1 old.input.0 old.input.1 = source_of old.trace b.0 b.1 old.input.0 old.input.1 (valid.inside b.0 b.1 before) in
    traces-within t x y source.u source.v old.input.0 old.input.1 (through.traces x y b.0 b.1 source.u source.v (inner_is x y now) source.traces) source.across source.down

-- the first pixel behind one module more: it is led to a pixel of the module's input, and from there to one of the input
pub near-within : (p : Params) (old : GeometrySeen) (out : ℕ × ℕ) (inner : Trace) → IsWithin p → IsGeometry old → out ≡ sides_after p old.out → Fits 0 0 out.0 out.1
    → IsTraceOf p old.out inner → TracesWithin inner 0 0 16384 16384
near-within p old out inner within valid out_is fits inner_is =
    let first : IsPixelOf out (0, 0) = record { across = fits.wide; down = fits.high } in
    let now : IsPixelOf (sides_after p old.out) (0, 0) = subst (λ (s : ℕ × ℕ). IsPixelOf s (0, 0)) out_is first in
    let before = pixel_before-inside p old.out 0 0 within valid.out now in
    traces-within inner 0 0 _ _ 16384 16384 (inner_is 0 0 now) (omega (arith, before.across, valid.out.right)) (omega (arith, before.down, valid.out.bottom))

pub far-within : (p : Params) (old : GeometrySeen) (out : ℕ × ℕ) (inner : Trace) → IsWithin p → IsGeometry old → out ≡ sides_after p old.out → Fits 0 0 out.0 out.1
    → IsTraceOf p old.out inner → (x y : ℕ) → Traces inner 0 0 x y → TracesWithin old.trace x y 16384 16384
far-within p old out inner within valid out_is fits inner_is x y traces =
    let first : IsPixelOf out (0, 0) = record { across = fits.wide; down = fits.high } in
    let now : IsPixelOf (sides_after p old.out) (0, 0) = subst (λ (s : ℕ × ℕ). IsPixelOf s (0, 0)) out_is first in
    let b : ℕ × ℕ = pixel_before p old.out (0, 0) in
    let before : IsPixelOf old.out (b.0, b.1) = pixel_before-inside p old.out 0 0 within valid.out now in
    let column : b.0 ≡ x = traces-column inner 0 0 b.0 b.1 x y (inner_is 0 0 now) traces in
    let row : b.1 ≡ y = traces-row inner 0 0 b.0 b.1 x y (inner_is 0 0 now) traces in
    let here : IsPixelOf old.out (x, y) = record { across = subst (λ n. n < old.out.0) column before.across; down = subst (λ n. n < old.out.1) row before.down } in
    let source : Source old.trace x y old.input.0 old.input.1 = source_of old.trace x y old.input.0 old.input.1 (valid.inside x y here) in
    traces-within old.trace x y source.u source.v 16384 16384 source.traces (omega (arith, source.across, valid.input.right)) (omega (arith, source.down, valid.input.bottom))

pub push-behind : (level : ℕ) (sides : ℕ × ℕ) (modules : List Params) (p : Params) (old : GeometrySeen) (out : ℕ × ℕ) (inner t : Trace)
    → IsWithin p → IsGeometry old → out ≡ sides_after p old.out → IsTraceOf p old.out inner → IsThrough old.trace inner t
    → IsBehind level sides modules old → IsBehind level sides (modules ++ p ∷ []) (record { input = old.input; out = out; trace = t })
push-behind level sides modules p old out inner t within valid out_is inner_is through behind = record {
  level_is = through.level ∙ behind.level_is;
  input = behind.input;
  out = out_is ∙ ap (sides_after p) behind.out ∙ sym (sides_behind-append modules p sides);
  places = λ x y pixel.
      let now : IsPixelOf (sides_after p old.out) (x, y) = subst (λ (s : ℕ × ℕ). IsPixelOf s (x, y)) out_is pixel in
      let b : ℕ × ℕ = pixel_before p old.out (x, y) in
      let before : IsPixelOf old.out (b.0, b.1) = pixel_before-inside p old.out x y within valid.out now in
      let place : ℕ × ℕ = place_behind modules sides (b.0, b.1) in
      let traced : Traces t x y place.0 place.1 = through.traces x y b.0 b.1 place.0 place.1 (inner_is x y now) (behind.places b.0 b.1 before) in
      let same : place ≡ place_behind (modules ++ p ∷ []) sides (x, y) =
      ap (λ (s : ℕ × ℕ). place_behind modules sides (pixel_before p s (x, y))) behind.out ∙ sym (place_behind-append modules p sides (x, y)) in
      subst (λ (q : ℕ × ℕ). Traces t x y q.0 q.1) same traced;
}
