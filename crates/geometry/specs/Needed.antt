-- The region of its input that a module needs for a region of its output.
use Rattle.std.specs.Prelude.{ℕ, ◌+◌, ◌-◌, ◌≤◌, min, max, Bool, if◌then◌else◌}
use Rattle.params.specs.declared.settings.Params.{Params}
use Rattle.params.specs.declared.settings.Params.TheVariants as params
use Rattle.px.specs.Area.{Area, HasPixel, grown, shifted}
use Rattle.geometry.specs.Sides.{IsPixelOf, kept_area, pixel_before}

-- where so many columns or rows begin, counted from the other end where the side is flipped
abbrev pub first_of : Bool → ℕ → ℕ → ℕ → ℕ
first_of flip side at count = if flip then side - (at + count) else at

-- the rectangle with its columns and rows swapped
abbrev pub swapped : Area → Area
swapped a = record { x = a.y; y = a.x; w = a.h; h = a.w }

-- a rectangle of a picture of these sides, flipped
abbrev pub flipped : Bool → Bool → ℕ × ℕ → Area → Area
flipped flip_x flip_y sides a = record { x = first_of flip_x sides.0 a.x a.w; y = first_of flip_y sides.1 a.y a.h; w = a.w; h = a.h }

-- the rectangle whose first and last pixel, in any order, these two are
abbrev pub between : ℕ × ℕ → ℕ × ℕ → Area
between a b = record { x = min a.0 b.0; y = min a.1 b.1; w = max a.0 b.0 - min a.0 b.0 + 1; h = max a.1 b.1 - min a.1 b.1 + 1 }

-- the region of a module's input, of these sides, that a region of its output needs
abbrev pub needed : Params → ℕ × ℕ → Area → Area
needed params.Demosaic sides out = grown out 1 sides.0 sides.1
needed (params.Orientation o) sides out = flipped o.flip_x o.flip_y sides (if o.swap then swapped out else out)
needed (params.Crop c) sides out = shifted out (kept_area c sides).x (kept_area c sides).y
needed (params.BoxBlur b) sides out = grown out b.radius sides.0 sides.1
needed (params.Sharpen s) sides out = grown out s.radius sides.0 sides.1
needed _ sides out = out

-- how many columns and rows round the pixel from which it comes a module looks at for a pixel, at most. A radius is counted in
-- pixels of the source, so that it is less at each level above
abbrev pub reach : Params → ℕ
reach params.Demosaic = 1
reach (params.BoxBlur b) = b.radius
reach (params.Sharpen s) = s.radius
reach _ = 0

-- the module may look at the input's pixel (u, v) for the output's pixel (x, y)
pub record LooksAt (p : Params) (sides : ℕ × ℕ) (x y u v : ℕ) : Type 0 where
  pub inside : IsPixelOf sides (u, v)
  pub left : (pixel_before p sides (x, y)).0 ≤ u + reach p
  pub right : u ≤ (pixel_before p sides (x, y)).0 + reach p
  pub top : (pixel_before p sides (x, y)).1 ≤ v + reach p
  pub bottom : v ≤ (pixel_before p sides (x, y)).1 + reach p

-- the region has each pixel that the module may look at for a pixel of the output's region
abbrev pub Suffices : Params → ℕ × ℕ → Area → Area → Type 0
Suffices p sides out from = (x y u v : ℕ) → HasPixel out x y → LooksAt p sides x y u v → HasPixel from u v
