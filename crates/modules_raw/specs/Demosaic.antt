-- demosaic
use Rattle.std.specs.Prelude.{ℕ, ◌+◌, ◌-◌, ◌==◌, min, if◌then◌else◌}
use Rattle.px.specs.declared.kind.Cfa.{Cfa}
use Rattle.px.specs.declared.kind.PlaneKind.{PlaneKind}
use Rattle.px.specs.declared.kind.PlaneKind.TheVariants.{Mosaic, Rgb}
use Rattle.px.specs.Area.{Area}
use Rattle.px.specs.Means.{mean_in}
use Rattle.px.specs.Mosaic.{channel_at}
use Rattle.px.specs.Picture.{Picture}

-- the 3x3 window round a pixel, as far as it lies in the whole picture
abbrev pub window : ℕ → ℕ → ℕ → ℕ → Area
window w h x y = record { x = x - 1; y = y - 1; w = min (x + 2) w - (x - 1); h = min (y + 2) h - (y - 1) }

-- a pixel's own channel keeps its value, another one is the mean of its pixels in the window
abbrev pub demosaiced : Cfa → ℕ → ℕ → (ℕ → ℕ → ℕ → ℕ) → ℕ → ℕ → ℕ → ℕ
demosaiced cfa w h at x y c = if channel_at cfa x y == c then at x y 0 else mean_in (Mosaic cfa) at c (window w h x y)

-- what a picture of a kind becomes: a mosaic is made RGB, and what is RGB stays as it is
abbrev pub demosaiced_by : PlaneKind → Picture → Picture
demosaiced_by (Mosaic cfa) q = record { kind = Rgb; w = q.w; h = q.h; at = demosaiced cfa q.w q.h q.at }
demosaiced_by Rgb q = q

abbrev pub demosaiced_picture : Picture → Picture
demosaiced_picture q = demosaiced_by q.kind q
