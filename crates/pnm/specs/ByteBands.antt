-- Bands of a raster.
use Rattle.std.specs.Prelude.{◌≡◌, ℕ, ◌+◌, ◌*◌, ◌++◌, List, length, Result}
use Rattle.std.specs.List.{flat_map}
use Rattle.px.specs.declared.depth.Depth.{Depth}
use Rattle.px.specs.declared.depth.Depth.TheVariants.{Eight, Sixteen}
use Rattle.px.specs.declared.kind.PlaneKind.TheVariants.{Rgb}
use Rattle.px.specs.Area.{Area, whole_of}
use Rattle.px.specs.Bands.{AreBands, GivesCuts}
use Rattle.px.specs.Cut.{Cut}
use Rattle.px.specs.Picture.{Picture}
use Rattle.pnm.specs.Pnm.{sample_bytes, written}

-- how many bytes a written sample has
abbrev pub bytes_of : Depth → ℕ
bytes_of Eight = 1
bytes_of Sixteen = 2

-- the bytes of values that are n rows of the picture from row y on
pub record AreByteBands {E : Type 0} (depth : Depth) (w h : ℕ) (post : Area → Result Cut E → Type 0) (y n : ℕ) (bytes : List ℕ) : Type 0 where
  pub values : List ℕ
  pub bytes_are : bytes ≡ flat_map (sample_bytes depth) values
  pub len : length values ≡ n * (w * 3)
  pub bands : AreBands Rgb w h (whole_of w h) post y n values

-- the text is that of each picture of which all bands are cuts
abbrev pub IsTextOf : {E : Type 0} → Depth → ℕ → ℕ → (Area → Result Cut E → Type 0) → List ℕ → Type 0
IsTextOf depth w h post text = (q : Picture) → GivesCuts (whole_of w h) post q → text ≡ written q depth
