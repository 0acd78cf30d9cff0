-- The cells of the levels, and who holds them.
use Rattle.std.specs.Prelude.{◌≡◌, ℕ, ◌+◌, ◌<◌, Bool, true, false, List, length, slice_index_or, Option, Some, None}
use Rattle.px.specs.Cut.{Cut}

-- a level of a source
pub record Spot : Type 0 where
  pub source : Cut
  pub level : ℕ

abbrev pub spot : Cut → ℕ → Spot
spot source level = record { source = source; level = level }

-- the cells of the first n levels, in order
pub record IsRow (source : Cut) (cells : List Spot) (n : ℕ) : Type 0 where
  pub count : length cells ≡ n
  pub each : (k : ℕ) (d : Spot) → k < n → slice_index_or cells k d ≡ spot source (k + 1)

-- the claim shows a plane
abbrev pub is_filled : {P : Type 0} → Option (Option P) → Bool
is_filled {P} (Some (Some p)) = true
is_filled {P} (Some None) = false
is_filled {P} None = false
