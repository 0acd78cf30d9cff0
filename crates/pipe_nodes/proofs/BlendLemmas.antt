-- Lemmas on blends: where pixels come from, and what is laid over what.
use Rattle.std.proofs.Common.{◌≡◌, ℕ, ◌≤◌, List, refl, sym, ap, ◌∙◌, subst, arith, ℤ, IsTrue, Option, Some, None}
use Rattle.std.proofs.lemmas.Int.{ints}
use Rattle.params.specs.declared.blending.Blend.{Blend}
use Rattle.params.specs.declared.blending.Shape.{Shape}
use Rattle.params.specs.declared.settings.Params.{Params}
use Rattle.params.specs.declared.settings.Params.TheVariants as params
use Rattle.params.specs.Ranges.{module_of, blends}
use Rattle.px.specs.declared.kind.PlaneKind.{PlaneKind}
use Rattle.px.specs.declared.kind.PlaneKind.TheVariants.{Rgb}
use Rattle.px.specs.Area.{Area, IsIn, HasPixel}
use Rattle.px.specs.Cover.{CoverSeen, cover_at}
use Rattle.px.specs.Cut.{Cut}
use Rattle.px.specs.Picture.{Picture}
use Rattle.px.specs.Trace.{Traces, TracesWithin, IsOnSide}
use Rattle.geometry.specs.Behind.{GeometrySeen, IsGeometry, IsBehind}
use Rattle.geometry.specs.Sides.{IsPixelOf, sides_after, sides_behind, place_behind}
use Rattle.masks.specs.Coverage.{coverage_at}
use Rattle.blend.specs.Blending.{IsCoveredBy}
use Rattle.pipe_nodes.specs.declared.active.Active.{Active}
use Rattle.pipe_nodes.specs.declared.tracing.Tracing.{Tracing}
use Rattle.pipe_nodes.specs.Applied.{CanTrace, IsTracing}
use Rattle.pipe_nodes.specs.Kinds.{Takes, kind_after}
use Rattle.pipe_nodes.specs.Whole.{sides_of, settings_of, place_in, covered_at, blended, input_of}

-- a mix has the kind and the sides of the output
pub blended-kind : (blend : Option Blend) (source : Picture) (level : ℕ) (before : List Active) (i m : Picture) → (blended source level before blend i m).kind ≡ m.kind
blended-kind None source level before i m = refl
blended-kind (Some b) source level before i m = refl

pub blended-sides : (blend : Option Blend) (source : Picture) (level : ℕ) (before : List Active) (i m : Picture) → sides_of (blended source level before blend i m) ≡ sides_of m
blended-sides None source level before i m = refl
blended-sides (Some b) source level before i m = refl

-- ---- modules that blend

-- a module that blends takes an RGB picture
pub blends-rgb : (p : Params) (k : PlaneKind) → IsTrue (blends (module_of p)) → Takes p k → k ≡ Rgb
blends-rgb (params.RawPrepare p) k h takes = cc
blends-rgb (params.Temperature p) k h takes = cc
blends-rgb params.Demosaic k h takes = cc
blends-rgb _ k h takes = takes

-- makes one of it
pub blends-kind : (p : Params) → IsTrue (blends (module_of p)) → kind_after Rgb p ≡ Rgb
blends-kind params.Demosaic h = refl
blends-kind _ h = refl

-- and leaves the sides as they are
pub blends-sides : (p : Params) (sides : ℕ × ℕ) → IsTrue (blends (module_of p)) → sides_after p sides ≡ sides
blends-sides (params.Orientation o) sides h = cc
blends-sides (params.Crop c) sides h = cc
blends-sides _ sides h = refl

-- ---- covers

-- without a mask each pixel is covered whole
pub covered_none : (source : Picture) (level : ℕ) (before : List Active) (mask : Option Shape) (a : Area) → mask ≡ None → IsCoveredBy (covered_at source level before mask) None a
covered_none source level before mask a e = record { same = λ x y inside. sym (ap (λ m. covered_at source level before m x y) e) }

inside_of : (a : Area) (sides : ℕ × ℕ) (x y : ℕ) → IsIn a sides.0 sides.1 → HasPixel a x y → IsPixelOf sides (x, y)
inside_of a sides x y inside pixel = record { across = omega (arith, inside.across, pixel.right); down = omega (arith, inside.down, pixel.bottom) }

-- a region of the output is one of the input
pub inside_as : (output input : Cut) → input.w ≡ output.w → input.h ≡ output.h → IsIn output.area output.w output.h → IsIn output.area input.w input.h
inside_as output input wide high inside = subst (λ w. IsIn output.area w input.h) (sym wide) (subst (λ h. IsIn output.area output.w h) (sym high) inside)

-- a cover by the trace covers each pixel as the mask says at its place
pub covered_some : (source : Picture) (level : ℕ) (before : List Active) (mask : Option Shape) (shape : Shape) (a : Area) (sides : ℕ × ℕ) (t : Tracing) (c : CoverSeen) → mask ≡ Some shape → IsIn a sides.0 sides.1
    → IsTracing source level before sides t
    → ((x y u v : ℕ) → HasPixel a x y → Traces t.trace x y u v → cover_at c x y ≡ coverage_at shape t.w t.h t.trace.level u v) → IsCoveredBy (covered_at source level before mask) (Some c) a
covered_some source level before mask shape a sides t c e inside tracing covers = record {
  same = λ x y pixel.
      let at = place_in source level before x y in
      covers x y at.0 at.1 pixel (tracing.places x y (inside_of a sides x y inside pixel))
      ∙ ap (λ w. coverage_at shape w t.h t.trace.level at.0 at.1) tracing.wide
      ∙ ap (λ h. coverage_at shape source.w h t.trace.level at.0 at.1) tracing.high
      ∙ ap (λ l. coverage_at shape source.w source.h l at.0 at.1) tracing.level_is
      ∙ sym (ap (λ m. covered_at source level before m x y) e);
}

-- each pixel of a region of the picture can be traced
pub traced_in : (t : Tracing) (sides : ℕ × ℕ) (a : Area) → CanTrace t sides → IsIn a sides.0 sides.1 → (x y : ℕ) → HasPixel a x y → TracesWithin t.trace x y 16384 16384
traced_in t sides a can inside x y pixel = can.inside x y (inside_of a sides x y inside pixel)

-- ---- traces along a run

-- behind the instances `before` the geometry says where the pixels come from
pub tracing_behind : (q : Picture) (level : ℕ) (before : List Active) (start sides : ℕ × ℕ) (w h : ℕ) (t : Tracing) (g : GeometrySeen) → w ≡ q.w → h ≡ q.h → start ≡ sides_of (input_of q level)
    → sides ≡ sides_behind (settings_of before) start → IsBehind level start (settings_of before) g → t ≡ record { w = w; h = h; trace = g.trace } → IsTracing q level before sides t
tracing_behind q level before start sides w h t g wide high start_is sides_is behind is =
    subst (IsTracing q level before sides) (sym is) (record {
      wide = wide;
      high = high;
      level_is = behind.level_is;
      places = λ x y pixel. subst (λ s. Traces g.trace x y (place_behind (settings_of before) s (x, y)).0 (place_behind (settings_of before) s (x, y)).1) start_is
          (behind.places x y (subst (λ s. IsPixelOf s (x, y)) (sides_is ∙ sym behind.out) pixel));
    })

wider_side : (z : ℤ) (side : ℕ) → IsOnSide z side → side ≤ 16384 → IsOnSide z 16384
wider_side z side on le = record { low = on.low; high = omega (arith, ints, on.high) }

-- behind the geometry's modules each pixel can be traced
pub can_trace : (g : GeometrySeen) (sides : ℕ × ℕ) (w h level : ℕ) (t : Tracing) → IsGeometry g → sides ≡ g.out → g.trace.level ≡ level → level ≤ 8 → w ≤ 16384 → h ≤ 16384
    → t ≡ record { w = w; h = h; trace = g.trace } → CanTrace t sides
can_trace g sides w h level t valid out level_is low wide high is =
    subst (λ s. CanTrace s sides) (sym is) (record {
      wide = wide;
      high = high;
      level = subst (λ l. l ≤ 8) (sym level_is) low;
      inside = λ x y pixel.
          let within = valid.inside x y (subst (λ s. IsPixelOf s (x, y)) out pixel) in
          let across : g.input.0 ≤ 16384 = omega (arith, valid.input.right) in
          let down : g.input.1 ≤ 16384 = omega (arith, valid.input.bottom) in
          record { column = wider_side _ g.input.0 within.column across; row = wider_side _ g.input.1 within.row down };
    })
