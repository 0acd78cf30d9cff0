-- means of the pixels of one colour
use Rattle.std.specs.Prelude.{ℕ, ◌/◌, ◌==◌, if◌then◌else◌}
use Rattle.px.specs.declared.kind.Cfa.{Cfa}
use Rattle.px.specs.declared.kind.PlaneKind.{PlaneKind}
use Rattle.px.specs.declared.kind.PlaneKind.TheVariants.{Mosaic, Rgb}
use Rattle.px.specs.Area.{Area}
use Rattle.px.specs.Mosaic.{channel_at}
use Rattle.px.specs.Sums.{area_total}

-- a value where the pixel has the channel, else 0
abbrev pub only : Cfa → ℕ → (ℕ → ℕ → ℕ) → ℕ → ℕ → ℕ
only cfa c f x y = if channel_at cfa x y == c then f x y else 0

-- what a pixel adds to the sum of a channel: its value, where it has the channel
abbrev pub part : PlaneKind → (ℕ → ℕ → ℕ → ℕ) → ℕ → ℕ → ℕ → ℕ
part (Mosaic cfa) at c = only cfa c (λ x y. at x y 0)
part Rgb at c = λ x y. at x y c

-- the sum of a channel in a rectangle
abbrev pub sum_in : PlaneKind → (ℕ → ℕ → ℕ → ℕ) → ℕ → Area → ℕ
sum_in kind at c a = area_total (part kind at c) a

-- how many of its pixels have the channel
abbrev pub count_in : PlaneKind → ℕ → Area → ℕ
count_in kind c a = sum_in kind (λ x y c. 1) c a

-- the mean of a channel in a rectangle, rounded down
abbrev pub mean_in : PlaneKind → (ℕ → ℕ → ℕ → ℕ) → ℕ → Area → ℕ
mean_in kind at c a = sum_in kind at c a / count_in kind c a
