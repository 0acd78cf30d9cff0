-- rasters, seen as the planes that they mean
use Rattle.std.specs.Prelude.{ℕ, ◌+◌, ◌-◌, ◌*◌, ◌/◌, ◌%◌, List, map, min}
use Rattle.std.specs.List.{range_with_len}
use Rattle.px.specs.declared.kind.PlaneKind.{PlaneKind}
use Rattle.px.specs.Area.{whole_of}
use Rattle.px.specs.Cut.{Cut, IsPlane}
use Rattle.px.specs.Kind.{channels}
use Rattle.pnm.specs.Samples.{IsRaster, meaning, sample_at}

-- all values of so many pixels, row by row: what their samples mean. A grey pixel has its one sample in all channels
unfoldable pub values_meant : PlaneKind → ℕ → ℕ → ℕ → List ℕ → List ℕ
values_meant kind samples top count raster =
    map (λ i. meaning kind top (sample_at top raster (i / channels kind * samples + min (i % channels kind) (samples - 1)))) (range_with_len 0 (count * channels kind))

-- the whole plane that a raster means
abbrev pub plane_meant : PlaneKind → ℕ → ℕ → ℕ → ℕ → List ℕ → Cut
plane_meant kind w h samples top raster = record { kind = kind; w = w; h = h; area = whole_of w h; values = values_meant kind samples top (h * w) raster }

-- the raster is one of such a picture, and what it means is a plane
pub record IsReadable (kind : PlaneKind) (w h samples top : ℕ) (raster : List ℕ) : Type 0 where
  pub raster_is : IsRaster kind samples top (h * w) raster
  pub plane : IsPlane (plane_meant kind w h samples top raster)
