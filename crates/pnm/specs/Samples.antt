-- samples and what they mean
use Rattle.std.specs.Prelude.{◌≡◌, ℕ, ◌+◌, ◌-◌, ◌*◌, ◌/◌, ◌==◌, ◌<◌, ◌≤◌, ◌⊎◌, nat_lt, min, Option, Some, None, List, slice_index, length, if◌then◌else◌}
use Rattle.px.specs.declared.kind.Cfa.{Cfa}
use Rattle.px.specs.declared.kind.PlaneKind.{PlaneKind}
use Rattle.px.specs.declared.kind.PlaneKind.TheVariants.{Mosaic, Rgb}
use Rattle.px.specs.Kind.{channels}

-- how many samples a pixel has: three in a P6, one in a P5
abbrev pub samples_of_magic : ℕ → ℕ
samples_of_magic magic = if magic == 54 then 3 else 1

-- a P5 is a mosaic where there is a colour filter array, and else it is grey
abbrev pub read_kind : ℕ → Option Cfa → PlaneKind
read_kind magic None = Rgb
read_kind magic (Some cfa) = if magic == 54 then Rgb else Mosaic cfa

-- one byte a sample, or two where the greatest one needs them
abbrev pub bytes_of_sample : ℕ → ℕ
bytes_of_sample top = if nat_lt top 256 then 1 else 2

-- sample i of a raster; of two bytes the first is the more significant one
abbrev pub sample_at : ℕ → List ℕ → ℕ → ℕ
sample_at top raster i = if nat_lt top 256 then slice_index raster i else slice_index raster (i * 2) * 256 + slice_index raster (i * 2 + 1)

-- what a sample means, where the greatest one is white
abbrev pub scaled : ℕ → ℕ → ℕ
scaled top s = min s top * 65535 / top

-- a mosaic's samples stay as they are
abbrev pub meaning : PlaneKind → ℕ → ℕ → ℕ
meaning (Mosaic cfa) top s = min s top
meaning Rgb top s = scaled top s

-- the values of so many pixels, row by row: what their samples mean. A grey pixel has its one sample in all channels.
pub record AreValues (kind : PlaneKind) (samples top count : ℕ) (raster values : List ℕ) : Type 0 where
  pub len : length values ≡ count * channels kind
  pub same : (i c : ℕ) → i < count → c < channels kind → slice_index values (i * channels kind + c) ≡ meaning kind top (sample_at top raster (i * samples + min c (samples - 1)))

-- a raster of so many pixels, of one sample each, or of three of an RGB picture
pub record IsRaster (kind : PlaneKind) (samples top count : ℕ) (raster : List ℕ) : Type 0 where
  pub len : length raster ≡ count * samples * bytes_of_sample top
  pub some : 0 < top
  pub small : top ≤ 65535
  pub few : count ≤ 25165824
  pub shape : (samples ≡ 1) ⊎ ((samples ≡ 3) × (kind ≡ Rgb))
