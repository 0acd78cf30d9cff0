-- masks within their ranges
use Rattle.std.proofs.Common.{◌≡◌, ℕ, zero, suc, ◌+◌, ◌<◌, ◌≤◌, refl, arith}
use Rattle.std.specs.Prelude.{ℤ, pos, negsuc, ◌≤ℤ◌, unsigned_abs}
use Rattle.std.proofs.lemmas.Int.{ints}
use Rattle.params.specs.declared.blending.Shape.TheVariants.{Gradient, Ellipse}
use Rattle.params.specs.Ranges.{IsShapeWithin}
use Rattle.masks.specs.Ranges.{IsGradient, IsEllipse}

small_of : (z : ℤ) → (negsuc 1023 ≤ℤ z) × (z ≤ℤ pos 1024) → unsigned_abs z ≤ 1024
small_of z h = omega (arith, ints, h.0, h.1)

some_of : (x y : ℤ) → (x ≡ pos 0 → y ≡ pos 0 → ⊥) → 0 < unsigned_abs x + unsigned_abs y
some_of (pos zero) (pos zero) h = absurd (h refl refl)
some_of (pos zero) (pos (suc n)) h = omega arith
some_of (pos zero) (negsuc n) h = omega arith
some_of (pos (suc n)) y h = omega arith
some_of (negsuc n) y h = omega arith

pub gradient_within : (ax ay : ℕ) (dx dy : ℤ) (slope : ℕ) → IsShapeWithin (Gradient ax ay dx dy slope) → IsGradient ax ay dx dy slope
gradient_within ax ay dx dy slope within = record {
  x = omega (arith, ints, within.kept.0.1);
  y = omega (arith, ints, within.kept.1.0.1);
  direction = record { across = small_of dx within.kept.1.1.0; down = small_of dy within.kept.1.1.1.0; some = some_of dx dy within.kept.1.1.1.1.0 };
  slope_most = omega (arith, ints, within.kept.1.1.1.1.1.0.1);
}

pub ellipse_within : (cx cy : ℕ) (ux uy : ℤ) (a b feather : ℕ) → IsShapeWithin (Ellipse cx cy ux uy a b feather) → IsEllipse cx cy ux uy a b feather
ellipse_within cx cy ux uy a b feather within = record {
  x = omega (arith, ints, within.kept.0.1);
  y = omega (arith, ints, within.kept.1.0.1);
  direction = record { across = small_of ux within.kept.1.1.0; down = small_of uy within.kept.1.1.1.0; some = some_of ux uy within.kept.1.1.1.1.0 };
  a_some = omega (arith, ints, within.kept.1.1.1.1.1.0.0);
  a_most = omega (arith, ints, within.kept.1.1.1.1.1.0.1);
  b_some = omega (arith, ints, within.kept.1.1.1.1.1.1.0.0);
  b_most = omega (arith, ints, within.kept.1.1.1.1.1.1.0.1);
  feather_some = omega (arith, ints, within.kept.1.1.1.1.1.1.1.0.0);
  feather_most = omega (arith, ints, within.kept.1.1.1.1.1.1.1.0.1);
}
