-- what the builders in place make of an editor of rows
use Rattle.std.specs.Prelude.{◌≡◌, ℕ, ◌+◌, ◌*◌, ◌<◌, ◌≤◌, List, [], ◌∷◌, slice_index}
use Rattle.px.specs.Area.{HasPixel}
use Rattle.px.specs.Cut.{Cut, rgb_at, value_at}
use Rattle.px.specs.Painted.{IsGiven}

-- three values from a place on
abbrev pub three_at : List ℕ → ℕ → List ℕ
three_at xs at = slice_index xs at ∷ slice_index xs (at + 1) ∷ slice_index xs (at + 2) ∷ []

-- what the editor gives of each pixel are values of samples
abbrev pub EditsTop : Cut → (ℕ → ℕ → List ℕ → List ℕ → Type 0) → Type 0
EditsTop p post = (x y : ℕ) (r : List ℕ) → HasPixel p.area x y → post x y (rgb_at p x y) r → (i : ℕ) → slice_index r i ≤ 1048575

-- The first n pixels of a row are what the editor gave of the old ones; the others are as they were.
pub record IsEditedRow (post : ℕ → ℕ → List ℕ → List ℕ → Type 0) (x y n : ℕ) (old new : List ℕ) : Type 0 where
  pub pixels : (k : ℕ) → k < n → IsGiven (post (x + k) y (three_at old (k * 3))) 3 (λ c. slice_index new (k * 3 + c))
  pub rest : (i : ℕ) → n * 3 ≤ i → slice_index new i ≡ slice_index old i
  pub top : (i : ℕ) → slice_index new i ≤ 1048575

-- the same of the first n rows of w pixels
pub record AreEditedRows (post : ℕ → ℕ → List ℕ → List ℕ → Type 0) (x y w n : ℕ) (old new : List ℕ) : Type 0 where
  pub pixels : (j k : ℕ) → j < n → k < w → IsGiven (post (x + k) (y + j) (three_at old ((j * w + k) * 3))) 3 (λ c. slice_index new ((j * w + k) * 3 + c))
  pub rest : (i : ℕ) → n * (w * 3) ≤ i → slice_index new i ≡ slice_index old i
  pub top : (i : ℕ) → slice_index new i ≤ 1048575

-- a plane of the same kind, sides and region, each pixel of which is what the editor gave of the old one
pub record IsRepainted (post : ℕ → ℕ → List ℕ → List ℕ → Type 0) (old new : Cut) : Type 0 where
  pub shape : new ≡ record old { values = new.values }
  pub pixels : (x y : ℕ) → HasPixel old.area x y → IsGiven (post x y (rgb_at old x y)) 3 (value_at new x y)
