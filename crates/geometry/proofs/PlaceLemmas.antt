-- Lemmas on sides and places behind modules.
use Rattle.std.proofs.Common.{◌≡◌, ℕ, ◌+◌, ◌*◌, ◌<◌, ◌≤◌, Bool, true, false, List, [], ◌∷◌, ◌++◌, refl, ap, arith}
use Rattle.std.specs.Bool.{if◌then◌else◌}
use Rattle.std.proofs.Math.Nat.{mul-le-mul_left}
use Rattle.std.proofs.lemmas.Int.{ints}
use Rattle.params.specs.declared.settings.Crop.{Crop}
use Rattle.params.specs.declared.settings.Params.{Params}
use Rattle.params.specs.declared.settings.Params.TheVariants as params
use Rattle.params.specs.Each.{IsCropWithin}
use Rattle.params.specs.Ranges.{IsWithin}
use Rattle.px.specs.Area.{Fits}
use Rattle.geometry.specs.Sides.{IsPixelOf, kept_from, kept_to, kept_area, sides_after, mirrored, pixel_before, sides_behind, place_behind}

pub sides_behind-append : (before : List Params) (p : Params) (sides : ℕ × ℕ) → sides_behind (before ++ p ∷ []) sides ≡ sides_after p (sides_behind before sides)
sides_behind-append [] p sides = refl
sides_behind-append (q ∷ before) p sides = sides_behind-append before p (sides_after q sides)

pub place_behind-append : (before : List Params) (p : Params) (sides pixel : ℕ × ℕ) → place_behind (before ++ p ∷ []) sides pixel ≡ place_behind before sides (pixel_before p (sides_behind before sides) pixel)
place_behind-append [] p sides pixel = refl
place_behind-append (q ∷ before) p sides pixel = ap (pixel_before q sides) (place_behind-append before p (sides_after q sides) pixel)

-- a crop keeps a part of each side
pub record KeepsPart (from to side : ℕ) : Type 0 where
  pub some : kept_from from side < kept_to from to side
  pub within : kept_to from to side ≤ side

pub keeps_part : (from to side : ℕ) → from ≤ 65535 → to ≤ 65536 → 0 < side → KeepsPart from to side
keeps_part from to side from_small to_small some =
    let first : side * from ≤ side * 65535 = mul-le-mul_left side from_small in
    let last : side * to ≤ side * 65536 = mul-le-mul_left side to_small in
    record { some = omega arith; within = omega arith }

-- within its ranges a crop is a part of the whole
pub record IsPart (c : Crop) : Type 0 where
  pub left : c.left ≤ 65535
  pub top : c.top ≤ 65535
  pub right : c.right ≤ 65536
  pub bottom : c.bottom ≤ 65536

pub is_part : (c : Crop) → IsCropWithin c → IsPart c
is_part c within =
    let k = within.kept in
    record { left = omega (arith, ints, k.0.1); top = omega (arith, ints, k.1.0.1); right = omega (arith, ints, k.1.1.0.1); bottom = omega (arith, ints, k.1.1.1.1.0.1) }

pub mirrored-below : (flip : Bool) (side n : ℕ) → n < side → mirrored flip side n < side
mirrored-below true side n below = omega arith
mirrored-below false side n below = below

turned-inside : (swap flip_x flip_y : Bool) (w h x y : ℕ) → x < (if swap then h else w) → y < (if swap then w else h)
    → IsPixelOf (w, h) (mirrored flip_x w (if swap then y else x), mirrored flip_y h (if swap then x else y))
turned-inside true flip_x flip_y w h x y across down = record { across = mirrored-below flip_x w y down; down = mirrored-below flip_y h x across }
turned-inside false flip_x flip_y w h x y across down = record { across = mirrored-below flip_x w x across; down = mirrored-below flip_y h y down }

kept-inside : (c : Crop) (sides : ℕ × ℕ) (x y : ℕ) → IsPart c → Fits 0 0 sides.0 sides.1 → IsPixelOf ((kept_area c sides).w, (kept_area c sides).h) (x, y) → IsPixelOf sides ((kept_area c sides).x + x, (kept_area c sides).y + y)
kept-inside c sides x y part fits pixel =
    let columns = keeps_part c.left c.right sides.0 part.left part.right fits.wide in
    let rows = keeps_part c.top c.bottom sides.1 part.top part.bottom fits.high in
    record { across = omega arith; down = omega arith }

-- the pixel from which one comes lies in the module's input
pub pixel_before-inside : (p : Params) (sides : ℕ × ℕ) (x y : ℕ) → IsWithin p → Fits 0 0 sides.0 sides.1 → IsPixelOf (sides_after p sides) (x, y) → IsPixelOf sides (pixel_before p sides (x, y))
pixel_before-inside (params.Orientation o) sides x y within fits pixel = turned-inside o.swap o.flip_x o.flip_y sides.0 sides.1 x y pixel.across pixel.down
pixel_before-inside (params.Crop c) sides x y within fits pixel = kept-inside c sides x y (is_part c within) fits pixel
pixel_before-inside _ sides x y within fits pixel = pixel
