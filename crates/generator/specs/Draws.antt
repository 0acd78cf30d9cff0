-- The draws: numbers of 16 bits that follow from one start.
use Rattle.std.specs.Prelude.{ℕ, zero, suc, ◌+◌, ◌*◌, ◌/◌, ◌%◌}

-- the number behind another, of 32 bits
abbrev pub after_number : ℕ → ℕ
after_number g = (g * 1664525 + 1013904223) % 4294967296

-- the number behind the first i ones, from this start on
unfoldable pub number_at : ℕ → ℕ → ℕ
number_at start zero = start
number_at start (suc i) = after_number (number_at start i)

-- the upper half of a number
abbrev pub upper_half : ℕ → ℕ
upper_half g = g / 65536

-- draw i, counted from 1
abbrev pub draw : ℕ → ℕ → ℕ
draw start i = upper_half (number_at start i)
