-- kinds of pictures
use Rattle.std.specs.Prelude.{ℕ}
use Rattle.px.specs.declared.kind.PlaneKind.{PlaneKind}
use Rattle.px.specs.declared.kind.PlaneKind.TheVariants.{Mosaic, Rgb}

-- how many values a pixel has
abbrev pub channels : PlaneKind → ℕ
channels (Mosaic cfa) = 1
channels Rgb = 3

-- the shortest side that a picture may have: each colour of a mosaic lies in any two of its columns and rows
abbrev pub least_side : PlaneKind → ℕ
least_side (Mosaic cfa) = 2
least_side Rgb = 1
