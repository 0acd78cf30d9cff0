-- radii at levels
use Rattle.std.specs.Prelude.{ℕ, ◌+◌, ◌-◌, ◌/◌, ◌^◌}

-- the quotient, rounded up
abbrev pub ceil_div : ℕ → ℕ → ℕ
ceil_div a n = (a + (n - 1)) / n

-- a radius of the source's pixels, in pixels of a level
abbrev pub radius_of : ℕ → ℕ → ℕ
radius_of radius level = ceil_div radius (2 ^ level)
