-- rectangles of pixels
use Rattle.std.specs.Prelude.{ℕ, ◌+◌, ◌-◌, ◌<◌, ◌≤◌, ◌↔◌, min}

-- the column and row of the first pixel, and how many columns and rows there are
pub record Area : Type 0 where
  pub x : ℕ
  pub y : ℕ
  pub w : ℕ
  pub h : ℕ

-- the sides that a region may have: it isn't empty, and ends within the longest side
pub record Fits (x y w h : ℕ) : Type 0 where
  pub wide : 0 < w
  pub high : 0 < h
  pub right : x + w ≤ 16384
  pub bottom : y + h ≤ 16384

abbrev pub IsArea : Area → Type 0
IsArea a = Fits a.x a.y a.w a.h

-- the pixel in column x and row y lies in the rectangle
pub record HasPixel (a : Area) (x y : ℕ) : Type 0 where
  pub left : a.x ≤ x
  pub right : x < a.x + a.w
  pub top : a.y ≤ y
  pub bottom : y < a.y + a.h

-- the inner rectangle lies in the outer one
pub record Covers (outer inner : Area) : Type 0 where
  pub left : outer.x ≤ inner.x
  pub right : inner.x + inner.w ≤ outer.x + outer.w
  pub top : outer.y ≤ inner.y
  pub bottom : inner.y + inner.h ≤ outer.y + outer.h

-- the rectangle lies in a picture of sides w and h
pub record IsIn (a : Area) (w h : ℕ) : Type 0 where
  pub across : a.x + a.w ≤ w
  pub down : a.y + a.h ≤ h

-- the whole of a picture of sides w and h
abbrev pub whole_of : ℕ → ℕ → Area
whole_of w h = record { x = 0; y = 0; w = w; h = h }

-- the rectangle and so many columns and rows more on each side, as far as they lie in a picture of sides w and h
abbrev pub grown : Area → ℕ → ℕ → ℕ → Area
grown a by w h = record { x = a.x - by; y = a.y - by; w = min (a.x + a.w + by) w - (a.x - by); h = min (a.y + a.h + by) h - (a.y - by) }

-- the pixel lies in a picture of sides w and h, and at most so many columns and rows away from the rectangle
pub record IsNear (a : Area) (by w h x y : ℕ) : Type 0 where
  pub wide : x < w
  pub high : y < h
  pub left : a.x ≤ x + by
  pub right : x < a.x + a.w + by
  pub top : a.y ≤ y + by
  pub bottom : y < a.y + a.h + by

-- the rectangle moved to the right and down
abbrev pub shifted : Area → ℕ → ℕ → Area
shifted a dx dy = record { x = a.x + dx; y = a.y + dy; w = a.w; h = a.h }

-- the pixels of the third rectangle are those that the other two share
abbrev pub IsShared : Area → Area → Area → Type 0
IsShared a b shared = (x y : ℕ) → HasPixel shared x y ↔ (HasPixel a x y × HasPixel b x y)

-- the rectangles share no pixel
abbrev pub AreApart : Area → Area → Type 0
AreApart a b = (x y : ℕ) → HasPixel a x y → HasPixel b x y → ⊥
