-- bands of rows
use Rattle.std.specs.Prelude.{◌≡◌, ℕ, ◌+◌, ◌*◌, ◌<◌, ◌≤◌, List, Ok, slice_index}
use Rattle.std.specs.Prelude.{Result}
use Rattle.px.specs.declared.kind.PlaneKind.{PlaneKind}
use Rattle.px.specs.Area.{Area, Covers}
use Rattle.px.specs.Cut.{Cut, IsCutOf}
use Rattle.px.specs.Kind.{channels}
use Rattle.px.specs.Picture.{Picture}

-- each of n rows, from row y on, may be asked for
abbrev pub AsksRows : (ℕ → Type 0) → ℕ → ℕ → Type 0
AsksRows asks y n = (j : ℕ) → j < n → asks (y + j)

-- a band of so many columns of a region, from a row on
abbrev pub band_of : Area → ℕ → ℕ → Area
band_of a y n = record { x = a.x; y = y; w = a.w; h = n }

-- values of a band of a picture of that kind and those sides
abbrev pub cut_by : PlaneKind → ℕ → ℕ → Area → List ℕ → Cut
cut_by kind w h a values = record { kind = kind; w = w; h = h; area = a; values = values }

-- a plane of that kind, those sides and that region
abbrev pub IsShaped : PlaneKind → ℕ → ℕ → Area → Cut → Type 0
IsShaped kind w h a p = p ≡ cut_by kind w h a p.values

-- a closure that makes regions of a picture may be called at each region that `a` covers
abbrev pub AsksBands : Area → (Area → Type 0) → Type 0
AsksBands a pre = (r : Area) → Covers a r → pre r

-- what it makes there are planes of the region that was asked for
abbrev pub GivesShaped : {E : Type 0} → PlaneKind → ℕ → ℕ → Area → (Area → Result Cut E → Type 0) → Type 0
GivesShaped kind w h a post = (r : Area) (p : Cut) → Covers a r → post r (Ok p) → IsShaped kind w h r p

-- what it makes there are cuts of q
abbrev pub GivesCuts : {E : Type 0} → Area → (Area → Result Cut E → Type 0) → Picture → Type 0
GivesCuts a post q = (r : Area) (p : Cut) → Covers a r → post r (Ok p) → IsCutOf q p

-- the row is one of the region
pub record HasRow (a : Area) (y : ℕ) : Type 0 where
  pub top : a.y ≤ y
  pub bottom : y < a.y + a.h

-- these values are n rows of the region from row y on: a cut of each picture of which all bands are cuts
pub record AreBands {E : Type 0} (kind : PlaneKind) (w h : ℕ) (a : Area) (post : Area → Result Cut E → Type 0) (y n : ℕ) (values : List ℕ) : Type 0 where
  pub top : (i : ℕ) → slice_index values i ≤ 1048575
  pub cut : (q : Picture) → GivesCuts a post q → IsCutOf q (cut_by kind w h (band_of a y n) values)

-- a plane of that kind, those sides and that region, which is a cut of each picture of which all bands are cuts
pub record IsFromBands {E : Type 0} (kind : PlaneKind) (w h : ℕ) (a : Area) (post : Area → Result Cut E → Type 0) (p : Cut) : Type 0 where
  pub shape : IsShaped kind w h a p
  pub cut : (q : Picture) → GivesCuts a post q → IsCutOf q p
