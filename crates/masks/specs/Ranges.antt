-- masks within their ranges, number by number
use Rattle.std.specs.Prelude.{ℕ, ◌+◌, ◌<◌, ◌≤◌, ℤ, unsigned_abs}

-- a direction: each part is small, and not both are 0
pub record IsDirection (x y : ℤ) : Type 0 where
  pub across : unsigned_abs x ≤ 1024
  pub down : unsigned_abs y ≤ 1024
  pub some : 0 < unsigned_abs x + unsigned_abs y

pub record IsGradient (ax ay : ℕ) (dx dy : ℤ) (slope : ℕ) : Type 0 where
  pub x : ax ≤ 65536
  pub y : ay ≤ 65536
  pub direction : IsDirection dx dy
  pub slope_most : slope ≤ 65536

pub record IsEllipse (cx cy : ℕ) (ux uy : ℤ) (a b feather : ℕ) : Type 0 where
  pub x : cx ≤ 65536
  pub y : cy ≤ 65536
  pub direction : IsDirection ux uy
  pub a_some : 0 < a
  pub a_most : a ≤ 65536
  pub b_some : 0 < b
  pub b_most : b ≤ 65536
  pub feather_some : 0 < feather
  pub feather_most : feather ≤ 65536
