-- pictures whose values are changed by their colours alone
use Rattle.std.specs.Prelude.{◌≡◌, ℕ, zero, suc, ◌+◌, ◌*◌, ◌%◌, ◌<◌, ◌≤◌, List, length, slice_index}
use Rattle.px.specs.Cut.{Cut, value_at}
use Rattle.px.specs.Mosaic.{channel_in}
use Rattle.px.specs.Picture.{Picture, pixel_by}

-- each value is what is made of the old one and its channel
abbrev pub mapped : (ℕ → ℕ → ℕ) → Picture → Picture
mapped makes q = record { kind = q.kind; w = q.w; h = q.h; at = λ x y c. makes (channel_in q.kind x y c) (q.at x y c) }

-- the values of a pixel of the plane, changed
pub record IsMapped (p : Cut) (makes : ℕ → ℕ → ℕ) (x y : ℕ) (r : List ℕ) : Type 0 where
  pub pixel : r ≡ pixel_by p.kind (λ c. makes (channel_in p.kind x y c) (value_at p x y c))
  pub top : (i : ℕ) → slice_index r i ≤ 1048575

-- each of n groups of so many values is changed by the places in the group
pub record AreChanged (size n : ℕ) (f : ℕ → ℕ → ℕ) (from row : List ℕ) : Type 0 where
  pub values : (k c : ℕ) → k < n → c < size → slice_index row (k * size + c) ≡ f c (slice_index from (k * size + c))
  pub top : (k c : ℕ) → k < n → c < size → slice_index row (k * size + c) ≤ 1048575

-- what two changes in turn, or three, make of the value in that place
abbrev pub second_in : (ℕ → ℕ) → (ℕ → ℕ) → ℕ → ℕ → ℕ
second_in f g zero v = f v
second_in f g (suc c) v = g v

abbrev pub third_in : (ℕ → ℕ) → (ℕ → ℕ) → (ℕ → ℕ) → ℕ → ℕ → ℕ
third_in f g h zero v = f v
third_in f g h (suc zero) v = g v
third_in f g h (suc (suc c)) v = h v

-- each value of a row is changed by its place among so many in turn
pub record IsInTurn (size : ℕ) (f : ℕ → ℕ → ℕ) (from row : List ℕ) : Type 0 where
  pub values : (i : ℕ) → i < length from → slice_index row i ≡ f (i % size) (slice_index from i)
  pub top : (i : ℕ) → i < length from → slice_index row i ≤ 1048575
