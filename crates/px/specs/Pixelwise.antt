-- pictures made pixel by pixel
use Rattle.std.specs.Prelude.{◌≡◌, ℕ, ◌+◌, ◌*◌, ◌<◌, ◌≤◌, List, [], ◌∷◌, slice_index}

-- red, green and blue of a pixel made: f gives a channel from the three of a pixel
abbrev pub made_of : (ℕ → ℕ → ℕ → ℕ → ℕ) → (ℕ → ℕ) → List ℕ
made_of f v = f 0 (v 0) (v 1) (v 2) ∷ f 1 (v 0) (v 1) (v 2) ∷ f 2 (v 0) (v 1) (v 2) ∷ []

-- the first n pixels of a row, each made of the pixel in its place in another row
pub record IsMadeRow (f : ℕ → ℕ → ℕ → ℕ → ℕ) (n : ℕ) (from row : List ℕ) : Type 0 where
  pub made : (k c : ℕ) → k < n → c < 3 → slice_index row (k * 3 + c) ≡ f c (slice_index from (k * 3)) (slice_index from (k * 3 + 1)) (slice_index from (k * 3 + 2))
  pub top : (i : ℕ) → slice_index row i ≤ 1048575
