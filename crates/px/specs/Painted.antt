-- what the builders of planes make of a closure
use Rattle.std.specs.Prelude.{◌≡◌, ℕ, ◌+◌, ◌*◌, ◌<◌, ◌≤◌, List, [], ◌∷◌, slice_index}
use Rattle.px.specs.declared.kind.PlaneKind.{PlaneKind}
use Rattle.px.specs.Area.{Area, HasPixel}
use Rattle.px.specs.Cut.{Cut, value_at}
use Rattle.px.specs.Kind.{channels}

-- the closure may be called at each pixel of the region
abbrev pub AsksIn : Area → (ℕ → ℕ → Type 0) → Type 0
AsksIn a pre = (x y : ℕ) → HasPixel a x y → pre x y

-- what the closure gives there are values of samples
abbrev pub GivesTop : Area → (ℕ → ℕ → List ℕ → Type 0) → Type 0
GivesTop a post = (x y : ℕ) (r : List ℕ) → HasPixel a x y → post x y r → (i : ℕ) → slice_index r i ≤ 1048575

-- these values are the front of an answer that the closure may give
pub record IsGiven (post : List ℕ → Type 0) (size : ℕ) (values : ℕ → ℕ) : Type 0 where
  pub answer : List ℕ
  pub given : post answer
  pub same : (c : ℕ) → c < size → slice_index answer c ≡ values c

-- a plane of these sides and this region, each pixel of which is what the closure gave there
pub record IsPainted (kind : PlaneKind) (w h : ℕ) (a : Area) (post : ℕ → ℕ → List ℕ → Type 0) (p : Cut) : Type 0 where
  pub kind_is : p.kind ≡ kind
  pub wide : p.w ≡ w
  pub high : p.h ≡ h
  pub area : p.area ≡ a
  pub pixels : (x y : ℕ) → HasPixel a x y → IsGiven (post x y) (channels kind) (value_at p x y)

-- the first n pixels of a row that begins in column x of row y, of so many values each
pub record IsRow (post : ℕ → ℕ → List ℕ → Type 0) (x y size n : ℕ) (row : List ℕ) : Type 0 where
  pub pixels : (k : ℕ) → k < n → IsGiven (post (x + k) y) size (λ c. slice_index row (k * size + c))
  pub top : (i : ℕ) → slice_index row i ≤ 1048575

-- the first n rows of w pixels, from column x of row y on, of so many values a pixel
pub record AreRows (post : ℕ → ℕ → List ℕ → Type 0) (x y w size n : ℕ) (values : List ℕ) : Type 0 where
  pub pixels : (j k : ℕ) → j < n → k < w → IsGiven (post (x + k) (y + j)) size (λ c. slice_index values ((j * w + k) * size + c))
  pub top : (i : ℕ) → slice_index values i ≤ 1048575

-- the one value that a closure may give
abbrev pub GivesOne : (ℕ → Type 0) → List ℕ → Type 0
GivesOne post r = (v : ℕ) × post v × (r ≡ v ∷ [])
