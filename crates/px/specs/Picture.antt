-- pictures
use Rattle.std.specs.Prelude.{ℕ, ◌*◌, ◌/◌, ◌%◌, List, [], ◌∷◌, map}
use Rattle.std.specs.List.{range_with_len}
use Rattle.px.specs.declared.kind.PlaneKind.{PlaneKind}
use Rattle.px.specs.declared.kind.PlaneKind.TheVariants.{Mosaic, Rgb}

-- a kind, two sides, and the value in each column, row and channel; past the sides it says anything
pub record Picture : Type 0 where
  pub kind : PlaneKind
  pub w : ℕ
  pub h : ℕ
  pub at : ℕ → ℕ → ℕ → ℕ

-- the values of one pixel of a picture of that kind, in the order of the channels
abbrev pub pixel_by : PlaneKind → (ℕ → ℕ) → List ℕ
pixel_by (Mosaic cfa) f = f 0 ∷ []
pixel_by Rgb f = f 0 ∷ f 1 ∷ f 2 ∷ []

abbrev pub pixel_of : Picture → ℕ → ℕ → List ℕ
pixel_of q x y = pixel_by q.kind (q.at x y)

-- red, green and blue of one pixel
abbrev pub rgb_of : Picture → ℕ → ℕ → List ℕ
rgb_of q x y = q.at x y 0 ∷ q.at x y 1 ∷ q.at x y 2 ∷ []

-- all values of an RGB picture, row by row, the three channels of a pixel side by side
abbrev pub samples_of : Picture → List ℕ
samples_of q = map (λ i. q.at (i / 3 % q.w) (i / 3 / q.w) (i % 3)) (range_with_len 0 (q.h * q.w * 3))
