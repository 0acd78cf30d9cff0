-- The picture that a number makes.
use Rattle.std.specs.Prelude.{ℕ, zero, suc, ◌%◌, List, [], ◌∷◌, ◌++◌}
use Rattle.px.specs.Area.{whole_of}
use Rattle.px.specs.Cut.{Cut}
use Rattle.px.specs.declared.kind.Cfa.TheVariants.{Rggb}
use Rattle.px.specs.declared.kind.PlaneKind.TheVariants.{Mosaic}
use Rattle.generator.specs.Draws.{draw, number_at}

-- the first samples, row by row: each a draw, of 10 bits
unfoldable pub samples : ℕ → ℕ → List ℕ
samples start zero = []
samples start (suc i) = samples start i ++ draw start (suc i) % 1024 ∷ []

-- a mosaic of 1024 columns and 768 rows
abbrev pub gen_picture : ℕ → Cut
gen_picture start = record { kind = Mosaic Rggb; w = 1024; h = 768; area = whole_of 1024 768; values = samples start 786432 }

-- the number behind the picture's draws, from which those of the steps go on
abbrev pub number_behind : ℕ → ℕ
number_behind start = number_at start 786432
