-- where a pixel comes from
use Rattle.std.specs.Prelude.{◌≡◌, ℕ, ℤ, pos, ◌+ℤ◌, ◌-ℤ◌, ◌≤ℤ◌, ◌<ℤ◌, Bool, true, false, if◌then◌else◌}
use Rattle.px.specs.declared.trace.Trace.{Trace}

-- a place on one axis, counted on from another, or counted back
abbrev pub counted : ℤ → Bool → ℕ → ℤ
counted from false n = from +ℤ pos n
counted from true n = from -ℤ pos n

-- the column of the input that a pixel comes from, and the row; either may lie outside the input
abbrev pub column_before : Trace → ℕ → ℕ → ℤ
column_before t x y = counted t.add_x t.flip_x (if t.swap then y else x)

abbrev pub row_before : Trace → ℕ → ℕ → ℤ
row_before t x y = counted t.add_y t.flip_y (if t.swap then x else y)

-- the pixel in column x and row y comes from column u and row v of the input
pub record Traces (t : Trace) (x y u v : ℕ) : Type 0 where
  pub column : column_before t x y ≡ pos u
  pub row : row_before t x y ≡ pos v

-- the place lies on a side of so many columns or rows
pub record IsOnSide (place : ℤ) (side : ℕ) : Type 0 where
  pub low : pos 0 ≤ℤ place
  pub high : place <ℤ pos side

-- the pixel in column x and row y comes from a pixel within these sides
pub record TracesWithin (t : Trace) (x y w h : ℕ) : Type 0 where
  pub column : IsOnSide (column_before t x y) w
  pub row : IsOnSide (row_before t x y) h
