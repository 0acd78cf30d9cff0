-- how far a mask covers a pixel
use Rattle.std.specs.Prelude.{◌≡◌, ◌≤◌, List, [], ◌∷◌, ℕ, ◌+◌, ◌-◌, ◌*◌, ◌/◌, ◌^◌, ℤ, pos, negsuc, ◌+ℤ◌, ◌-ℤ◌, ◌*ℤ◌, min, unsigned_abs, nat_le, nat_lt, if◌then◌else◌}
use Rattle.params.specs.declared.blending.Shape.{Shape}
use Rattle.params.specs.declared.blending.Shape.TheVariants.{Gradient, Ellipse}
use Rattle.params.specs.Ranges.{IsShapeWithin}
use Rattle.px.specs.declared.trace.Trace.{Trace}
use Rattle.px.specs.Number.{floor_div}
use Rattle.px.specs.Trace.{Traces}

-- Places are in half columns and half rows of the source, so that the middle of each pixel of each level is a whole number.

-- the middle of a column or row of a level
abbrev pub position : ℕ → ℕ → ℕ
position level n = (2 * n + 1) * 2 ^ level

-- a place in 1/65536 of a side
abbrev pub anchor : ℕ → ℕ → ℕ
anchor side at = 2 * side * at / 65536

-- how far the middle of a column or row is from such a place
abbrev pub offset : ℕ → ℕ → ℕ → ℕ → ℤ
offset side at level n = pos (position level n) -ℤ pos (anchor side at)

-- a distance (x, y) measured along the direction (dx, dy), times that direction's length
abbrev pub along : ℤ → ℤ → ℤ → ℤ → ℤ
along x y dx dy = x *ℤ dx +ℤ y *ℤ dy

-- the same across the direction
abbrev pub across : ℤ → ℤ → ℤ → ℤ → ℤ
across x y dx dy = y *ℤ dx -ℤ x *ℤ dy

-- the nearest value of a cover
abbrev pub clamp_cover : ℤ → ℕ
clamp_cover (pos a) = min a 65536
clamp_cover (negsuc a) = 0

-- half covered at the gradient's place, and more along its direction
abbrev pub risen : ℤ → ℕ → ℕ
risen distance slope = clamp_cover (pos 32768 +ℤ floor_div (distance *ℤ pos slope) 65536)

abbrev pub squared : ℤ → ℕ
squared z = unsigned_abs z * unsigned_abs z

-- how far a distance p along the ellipse's axis and q across it is out: the same as `rim` at the ellipse itself, by the squares
abbrev pub far_out : ℤ → ℤ → ℕ → ℕ → ℕ
far_out p q a b = squared p * (b * b) + squared q * (a * a)

abbrev pub rim : ℤ → ℤ → ℕ → ℕ → ℕ
rim ux uy a b = (squared ux + squared uy) * (a * a) * (b * b)

-- covered whole up to the ellipse, and less and less over the feather: e is 65536 at the ellipse
abbrev pub faded : ℕ → ℕ → ℕ
faded feather e = if nat_le e 65536 then 65536 else if nat_lt e (65536 + feather) then 65536 * (65536 + feather - e) / feather else 0

-- how far a mask covers the pixel in column x and row y of a level of a source of sides w and h
abbrev pub coverage_at : Shape → ℕ → ℕ → ℕ → ℕ → ℕ → ℕ
coverage_at (Gradient ax ay dx dy slope) w h level x y = risen (along (offset w ax level x) (offset h ay level y) dx dy) slope
coverage_at (Ellipse cx cy ux uy a b feather) w h level x y =
    faded feather (65536 * far_out (along (offset w cx level x) (offset h cy level y) ux uy) (across (offset w cx level x) (offset h cy level y) ux uy) a b / rim ux uy a b)

-- the one value of a pixel is how far the mask covers the pixel to which the trace leads
pub record IsCovering (s : Shape) (t : Trace) (w h x y : ℕ) (r : List ℕ) : Type 0 where
  pub value : (u v : ℕ) → Traces t x y u v → r ≡ coverage_at s w h t.level u v ∷ []

-- what covering asks of a mask, a trace and the source's sides
pub record IsMaskFit (s : Shape) (t : Trace) (w h : ℕ) : Type 0 where
  pub within : IsShapeWithin s
  pub wide : w ≤ 16384
  pub high : h ≤ 16384
  pub level : t.level ≤ 8
