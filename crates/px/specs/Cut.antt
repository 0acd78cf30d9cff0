-- cuts of pictures: what a plane is seen as
use Rattle.std.specs.Prelude.{◌≡◌, ℕ, ◌+◌, ◌-◌, ◌*◌, ◌<◌, ◌≤◌, List, [], ◌∷◌, length, slice_index}
use Rattle.px.specs.declared.kind.PlaneKind.{PlaneKind}
use Rattle.px.specs.Area.{Area, IsArea, IsIn, HasPixel, whole_of}
use Rattle.px.specs.Kind.{channels, least_side}
use Rattle.px.specs.Picture.{Picture}

-- a picture's kind and sides, a region of it, and the values of that region, row by row
pub record Cut : Type 0 where
  pub kind : PlaneKind
  pub w : ℕ
  pub h : ℕ
  pub area : Area
  pub values : List ℕ

-- where a pixel's values begin
abbrev pub place : Cut → ℕ → ℕ → ℕ
place p x y = ((y - p.area.y) * p.area.w + (x - p.area.x)) * channels p.kind

-- the value in a column, a row and a channel
abbrev pub value_at : Cut → ℕ → ℕ → ℕ → ℕ
value_at p x y c = slice_index p.values (place p x y + c)

-- red, green and blue of one pixel
abbrev pub rgb_at : Cut → ℕ → ℕ → List ℕ
rgb_at p x y = value_at p x y 0 ∷ value_at p x y 1 ∷ value_at p x y 2 ∷ []

-- what holds of each plane. `top` speaks of each place, also past the last value, where 0 is read
pub record IsPlane (p : Cut) : Type 0 where
  pub area : IsArea p.area
  pub inside : IsIn p.area p.w p.h
  pub wide : p.w ≤ 16384
  pub high : p.h ≤ 16384
  pub wide_enough : least_side p.kind ≤ p.w
  pub high_enough : least_side p.kind ≤ p.h
  pub len : length p.values ≡ (p.area.h * p.area.w) * channels p.kind
  pub top : (i : ℕ) → slice_index p.values i ≤ 1048575

-- p is the cut of q by the region of p
pub record IsCutOf (q : Picture) (p : Cut) : Type 0 where
  pub kind : p.kind ≡ q.kind
  pub wide : p.w ≡ q.w
  pub high : p.h ≡ q.h
  pub same : (x y c : ℕ) → HasPixel p.area x y → c < channels q.kind → value_at p x y c ≡ q.at x y c

-- the region is the whole picture
abbrev pub IsWhole : Cut → Type 0
IsWhole p = p.area ≡ whole_of p.w p.h

-- the picture that a cut shows; outside the cut's region it says nothing of use
abbrev pub picture_of : Cut → Picture
picture_of p = record { kind = p.kind; w = p.w; h = p.h; at = value_at p }
