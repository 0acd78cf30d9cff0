-- planes cut out of planes
use Rattle.std.specs.Prelude.{◌≡◌, ℕ, ◌≤◌, List, slice_index}
use Rattle.px.specs.Cut.{Cut, value_at}
use Rattle.px.specs.Picture.{pixel_by}

-- the values of a pixel of the plane
pub record IsCopied (p : Cut) (x y : ℕ) (r : List ℕ) : Type 0 where
  pub pixel : r ≡ pixel_by p.kind (value_at p x y)
  pub top : (i : ℕ) → slice_index r i ≤ 1048575
