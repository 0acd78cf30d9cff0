-- how far the pixels of a region are covered by a mask
use Rattle.std.specs.Prelude.{◌≡◌, ℕ, ◌+◌, ◌-◌, ◌*◌, ◌≤◌, List, length, slice_index}
use Rattle.px.specs.Area.{Area, IsArea, HasPixel}
use Rattle.px.specs.Painted.{IsGiven}

-- a region, and how far each of its pixels is covered, row by row
pub record CoverSeen : Type 0 where
  pub area : Area
  pub values : List ℕ

-- what holds of each cover. `top` speaks of each place, also past the last value, where 0 is read
pub record IsCover (c : CoverSeen) : Type 0 where
  pub area : IsArea c.area
  pub len : length c.values ≡ c.area.h * c.area.w
  pub top : (i : ℕ) → slice_index c.values i ≤ 65536

-- how far the pixel in a column and a row is covered
abbrev pub cover_at : CoverSeen → ℕ → ℕ → ℕ
cover_at c x y = slice_index c.values ((y - c.area.y) * c.area.w + (x - c.area.x))

-- each pixel of the region is covered as f says
pub record IsCoverOf (f : ℕ → ℕ → ℕ) (c : CoverSeen) : Type 0 where
  pub same : (x y : ℕ) → HasPixel c.area x y → cover_at c x y ≡ f x y

-- a cover of the region, each pixel of which is covered as the painter gave
pub record IsCoverPainted (a : Area) (post : ℕ → ℕ → List ℕ → Type 0) (c : CoverSeen) : Type 0 where
  pub area : c.area ≡ a
  pub pixels : (x y : ℕ) → HasPixel a x y → IsGiven (post x y) 1 (λ k. cover_at c x y)

-- what the painter gives at each pixel of the region is at most full cover
abbrev pub GivesCover : Area → (ℕ → ℕ → List ℕ → Type 0) → Type 0
GivesCover a post = (x y : ℕ) (r : List ℕ) → HasPixel a x y → post x y r → (i : ℕ) → slice_index r i ≤ 65536
