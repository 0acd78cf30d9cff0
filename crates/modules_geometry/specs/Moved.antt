-- pictures whose pixels come from other places
use Rattle.std.specs.Prelude.{◌≡◌, ℕ, ◌≤◌, List, slice_index}
use Rattle.params.specs.declared.settings.Crop.{Crop}
use Rattle.params.specs.declared.settings.Orientation.{Orientation}
use Rattle.params.specs.declared.settings.Params.{Params}
use Rattle.params.specs.declared.settings.Params.TheVariants as params
use Rattle.px.specs.declared.kind.PlaneKind.TheVariants.{Rgb}
use Rattle.px.specs.declared.trace.Trace.{Trace}
use Rattle.px.specs.Area.{Area, HasPixel, IsIn, Covers}
use Rattle.px.specs.Cut.{Cut, rgb_at}
use Rattle.px.specs.Picture.{Picture}
use Rattle.px.specs.Trace.{Traces, TracesWithin}
use Rattle.geometry.specs.Needed.{needed}
use Rattle.geometry.specs.Sides.{sides_after, pixel_before}

-- what a module that only moves pixels makes of a picture: each pixel is the one of the input from which it comes
abbrev pub moved_picture : Params → Picture → Picture
moved_picture p q = record {
  kind = q.kind;
  w = (sides_after p (q.w, q.h)).0;
  h = (sides_after p (q.w, q.h)).1;
  at = λ x y c. q.at (pixel_before p (q.w, q.h) (x, y)).0 (pixel_before p (q.w, q.h) (x, y)).1 c;
}

-- orientation
abbrev pub turned_picture : Orientation → Picture → Picture
turned_picture o q = moved_picture (params.Orientation o) q

-- crop
abbrev pub cropped_picture : Crop → Picture → Picture
cropped_picture c q = moved_picture (params.Crop c) q

-- the plane is RGB, and covers what the region needs, which lies in the module's output
pub record CanMove (p : Params) (input : Cut) (region : Area) : Type 0 where
  pub rgb : input.kind ≡ Rgb
  pub inside : IsIn region (sides_after p (input.w, input.h)).0 (sides_after p (input.w, input.h)).1
  pub covers : Covers input.area (needed p (input.w, input.h) region)

-- the pixel comes from one that the plane holds
pub record IsHeld (p : Cut) (t : Trace) (x y : ℕ) : Type 0 where
  pub rgb : p.kind ≡ Rgb
  pub within : TracesWithin t x y 16384 16384
  pub held : (u v : ℕ) → Traces t x y u v → HasPixel p.area u v

-- red, green and blue of the pixel of the plane from which the pixel comes
pub record IsMoved (p : Cut) (t : Trace) (x y : ℕ) (r : List ℕ) : Type 0 where
  pub pixel : (u v : ℕ) → Traces t x y u v → r ≡ rgb_at p u v
  pub top : (i : ℕ) → slice_index r i ≤ 1048575
