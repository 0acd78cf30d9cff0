-- colour filter arrays
use Rattle.std.specs.Prelude.{ℕ, ◌+◌, ◌*◌, ◌%◌, List, [], ◌∷◌, slice_index}
use Rattle.px.specs.declared.kind.Cfa.{Cfa}
use Rattle.px.specs.declared.kind.Cfa.TheVariants.{Rggb, Bggr, Grbg, Gbrg}
use Rattle.px.specs.declared.kind.Colour.{Colour}
use Rattle.px.specs.declared.kind.Colour.TheVariants.{R, G, B}
use Rattle.px.specs.declared.kind.PlaneKind.{PlaneKind}
use Rattle.px.specs.declared.kind.PlaneKind.TheVariants.{Mosaic, Rgb}

-- the place of a colour among red, green and blue
abbrev pub channel : Colour → ℕ
channel R = 0
channel G = 1
channel B = 2

-- the channels of the pixels (0,0), (1,0), (0,1), (1,1)
abbrev pub channels_of : Cfa → List ℕ
channels_of Rggb = 0 ∷ 1 ∷ 1 ∷ 2 ∷ []
channels_of Bggr = 2 ∷ 1 ∷ 1 ∷ 0 ∷ []
channels_of Grbg = 1 ∷ 0 ∷ 2 ∷ 1 ∷ []
channels_of Gbrg = 1 ∷ 2 ∷ 0 ∷ 1 ∷ []

-- the channel in a column and a row that are even (0) or odd (1)
abbrev pub channel_by : Cfa → ℕ → ℕ → ℕ
channel_by cfa p q = slice_index (channels_of cfa) (p + 2 * q)

-- the channel of a mosaic's pixel
abbrev pub channel_at : Cfa → ℕ → ℕ → ℕ
channel_at cfa x y = channel_by cfa (x % 2) (y % 2)

-- which of red, green and blue the value c of a pixel is
abbrev pub channel_in : PlaneKind → ℕ → ℕ → ℕ → ℕ
channel_in (Mosaic cfa) x y c = channel_at cfa x y
channel_in Rgb x y c = c
