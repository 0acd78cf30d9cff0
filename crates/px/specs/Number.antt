-- whole numbers at a scale
use Rattle.std.specs.Prelude.{ℕ, ℤ, pos, negsuc, ◌/◌, min}

-- the quotient, rounded towards minus infinity
abbrev pub floor_div : ℤ → ℕ → ℤ
floor_div (pos a) n = pos (a / n)
floor_div (negsuc a) n = negsuc (a / n)

-- the nearest value of a sample
abbrev pub clamp : ℤ → ℕ
clamp (pos a) = min a 1048575
clamp (negsuc a) = 0
