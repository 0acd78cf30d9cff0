-- demosaic along a row
use Rattle.std.specs.Prelude.{◌≡◌, ℕ, ◌+◌, ◌/◌, ◌<◌, ◌≤◌, ◌==◌, List, [], ◌∷◌, length, slice_index, if◌then◌else◌}
use Rattle.px.specs.declared.kind.Cfa.{Cfa}
use Rattle.px.specs.declared.kind.PlaneKind.TheVariants.{Mosaic}
use Rattle.px.specs.Area.{Covers}
use Rattle.px.specs.Cut.{Cut, value_at}
use Rattle.modules_raw.specs.Demosaic.{window, demosaiced}

-- the plane is a mosaic with this pixel's window
pub record CanAsk (p : Cut) (cfa : Cfa) (w h x y : ℕ) : Type 0 where
  pub mosaic : p.kind ≡ Mosaic cfa
  pub wide : p.w ≡ w
  pub high : p.h ≡ h
  pub left : x < w
  pub top : y < h
  pub wide_enough : 2 ≤ w
  pub high_enough : 2 ≤ h
  pub across : w ≤ 16384
  pub down : h ≤ 16384
  pub covers : Covers p.area (window w h x y)

-- the three channels of a pixel
pub record IsPixel (cfa : Cfa) (w h : ℕ) (at : ℕ → ℕ → ℕ → ℕ) (x y : ℕ) (r : List ℕ) : Type 0 where
  pub pixel : r ≡ demosaiced cfa w h at x y 0 ∷ demosaiced cfa w h at x y 1 ∷ demosaiced cfa w h at x y 2 ∷ []
  pub top : (i : ℕ) → slice_index r i ≤ 1048575

-- what the three rows make of a pixel with all eight neighbours: by its own channel and that of the pixels beside it,
-- its value, and the sums of the two beside it, the two above and below, and the four at the corners
abbrev pub inner : ℕ → ℕ → ℕ → ℕ → ℕ → ℕ → List ℕ
inner own side v beside along corners =
    if own == 1
    then (if side == 0 then beside / 2 ∷ v ∷ along / 2 ∷ [] else along / 2 ∷ v ∷ beside / 2 ∷ [])
    else (if own == 0 then v ∷ (beside + along) / 4 ∷ corners / 4 ∷ [] else corners / 4 ∷ (beside + along) / 4 ∷ v ∷ [])

-- m values of row y of a mosaic, from column x on
pub record IsRowOf (p : Cut) (x y m : ℕ) (row : List ℕ) : Type 0 where
  pub len : length row ≡ m
  pub same : (i : ℕ) → i < m → slice_index row i ≡ value_at p (x + i) y 0
  pub top : (i : ℕ) → slice_index row i ≤ 1048575
