-- sums that run along
use Rattle.std.specs.Prelude.{◌≡◌, ℕ, ◌+◌, ◌-◌, ◌*◌, ◌/◌, ◌<◌, ◌≤◌, List, [], ◌∷◌, length, slice_index}
use Rattle.px.specs.Cut.{Cut}
use Rattle.px.specs.Sums.{total}
use Rattle.local_modules.specs.Blurring.{blurred}

-- value i of row v, counted from column lo on
abbrev pub flat : Cut → ℕ → ℕ → ℕ → ℕ
flat p lo v i = slice_index p.values (((v - p.area.y) * p.area.w + (lo - p.area.x)) * 3 + i)

-- f from a up to b
abbrev pub between : (ℕ → ℕ) → ℕ → ℕ → ℕ
between f a b = total f a (b - a)

-- n sums, each of the values of one place in the rows from a up to b
pub record AreColumns (p : Cut) (lo n a b : ℕ) (sums : List ℕ) : Type 0 where
  pub len : length sums ≡ n
  pub same : (i : ℕ) → i < n → slice_index sums i ≡ between (λ v. flat p lo v i) a b

-- the sums of one channel
abbrev pub channel : List ℕ → ℕ → ℕ → ℕ
channel sums c j = slice_index sums (j * 3 + c)

-- three channels of a pixel
pub record IsBlurred (r w h : ℕ) (at : ℕ → ℕ → ℕ → ℕ) (x y : ℕ) (made : List ℕ) : Type 0 where
  pub pixel : made ≡ blurred r w h at x y 0 ∷ blurred r w h at x y 1 ∷ blurred r w h at x y 2 ∷ []
  pub top : (i : ℕ) → slice_index made i ≤ 1048575

-- a number to divide by, and how many times it goes into 2^64 - 1
pub record IsDivisor (n inverse : ℕ) : Type 0 where
  pub some : 0 < n
  pub few : n ≤ 4194304
  pub inverse_is : inverse ≡ 18446744073709551615 / n
