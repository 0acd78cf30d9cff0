-- What one module makes of sides, and from which pixel of its input a pixel comes.
use Rattle.std.specs.Prelude.{ℕ, ◌+◌, ◌-◌, ◌*◌, ◌/◌, ◌<◌, max, Bool, if◌then◌else◌, List, [], ◌∷◌}
use Rattle.params.specs.declared.settings.Crop.{Crop}
use Rattle.params.specs.declared.settings.Params.{Params}
use Rattle.params.specs.declared.settings.Params.TheVariants as params
use Rattle.px.specs.Area.{Area}

-- Sides are a number of columns and a number of rows; a pixel is a column and a row.

-- the pixel lies in a picture of these sides
pub record IsPixelOf (sides pixel : ℕ × ℕ) : Type 0 where
  pub across : pixel.0 < sides.0
  pub down : pixel.1 < sides.1

-- the first column or row that a crop keeps of a side
abbrev pub kept_from : ℕ → ℕ → ℕ
kept_from from side = from * side / 65536

-- where what it keeps ends: it keeps at least one
abbrev pub kept_to : ℕ → ℕ → ℕ → ℕ
kept_to from to side = max (kept_from from side + 1) (to * side / 65536)

-- what a crop keeps of a picture
abbrev pub kept_area : Crop → ℕ × ℕ → Area
kept_area c sides = record {
  x = kept_from c.left sides.0;
  y = kept_from c.top sides.1;
  w = kept_to c.left c.right sides.0 - kept_from c.left sides.0;
  h = kept_to c.top c.bottom sides.1 - kept_from c.top sides.1;
}

-- the sides after one module: orientation may swap them, a crop keeps a part
abbrev pub sides_after : Params → ℕ × ℕ → ℕ × ℕ
sides_after (params.Orientation o) sides = (if o.swap then sides.1 else sides.0, if o.swap then sides.0 else sides.1)
sides_after (params.Crop c) sides = ((kept_area c sides).w, (kept_area c sides).h)
sides_after _ sides = sides

-- a column or row, counted from the other end where the side is flipped
abbrev pub mirrored : Bool → ℕ → ℕ → ℕ
mirrored flip side n = if flip then side - 1 - n else n

-- the pixel of a module's input, of these sides, from which a pixel of its output comes: first the swap, then the flips
abbrev pub pixel_before : Params → ℕ × ℕ → ℕ × ℕ → ℕ × ℕ
pixel_before (params.Orientation o) sides pixel = (mirrored o.flip_x sides.0 (if o.swap then pixel.1 else pixel.0), mirrored o.flip_y sides.1 (if o.swap then pixel.0 else pixel.1))
pixel_before (params.Crop c) sides pixel = ((kept_area c sides).x + pixel.0, (kept_area c sides).y + pixel.1)
pixel_before _ sides pixel = pixel

-- the sides behind a list of modules
abbrev pub sides_behind : List Params → ℕ × ℕ → ℕ × ℕ
sides_behind [] sides = sides
sides_behind (p ∷ later) sides = sides_behind later (sides_after p sides)

-- the place of a pixel: the input's pixel from which it comes behind a list of modules, traced from the last to the first
abbrev pub place_behind : List Params → ℕ × ℕ → ℕ × ℕ → ℕ × ℕ
place_behind [] sides pixel = pixel
place_behind (p ∷ later) sides pixel = pixel_before p sides (place_behind later (sides_after p sides) pixel)
