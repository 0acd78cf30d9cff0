-- rows of covers
use Rattle.std.proofs.Common.{◌≡◌, ℕ, zero, suc, ◌+◌, ◌-◌, ◌*◌, ◌/◌, ◌<◌, ◌≤◌, List, [], ◌∷◌, length, slice_index, refl, ap, ⊎_elim, arith}
use Rattle.std.specs.Prelude.{ℤ, pos, negsuc, ◌≤ℤ◌}
use Rattle.std.proofs.lemmas.Bool.{cases_lt}
use Rattle.std.proofs.lemmas.Bool.Decides.{nat_tests}
use Rattle.std.proofs.lemmas.Int.{ints}
use Rattle.std.proofs.lemmas.List.{get_or_past}
use Rattle.std.proofs.Math.Nat.{div-lt_iff_lt-mul}
use Rattle.params.specs.declared.blending.Shape.{Shape}
use Rattle.params.specs.declared.blending.Shape.TheVariants.{Gradient, Ellipse}
use Rattle.px.specs.declared.trace.Trace.{Trace}
use Rattle.px.specs.Painted.{IsRow}
use Rattle.px.specs.Trace.{Traces, TracesWithin, column_before, row_before}
use Rattle.masks.specs.declared.edge.Edge.{Edge}
use Rattle.masks.specs.declared.lines.Line.{Line}
use Rattle.masks.specs.Coverage.{clamp_cover, coverage_at, faded, far_out, rim, IsCovering}
use Rattle.masks.specs.Lines.{ellipse_at, IsLineOf}

-- ---- no cover is more than full

clamp_small : (z : ℤ) → clamp_cover z ≤ 65536
clamp_small (pos a) = omega arith
clamp_small (negsuc a) = omega arith

share_small : (m f : ℕ) → m ≤ f → 65536 * m / f ≤ 65536
share_small m zero h = let none : m ≡ 0 = omega arith in rw none (omega arith)
share_small m (suc f) h =
    let some : 0 < suc f = omega arith in
    let below : 65536 * m / suc f < 65537 = (div-lt_iff_lt-mul some).1 (omega arith) in
    omega arith

faded_small : (feather e : ℕ) → faded feather e ≤ 65536
faded_small feather e = grind (arith, nat_tests, share_small (65536 + feather - e) feather)

coverage_small : (s : Shape) (w h level u v : ℕ) → coverage_at s w h level u v ≤ 65536
coverage_small (Gradient ax ay dx dy slope) w h level u v = clamp_small _
coverage_small (Ellipse cx cy ux uy a b feather) w h level u v = faded_small feather _

natural : (z : ℤ) → pos 0 ≤ℤ z → (n : ℕ) × (z ≡ pos n)
natural (pos n) h = (n, refl)
natural (negsuc n) h = absurd (omega (arith, ints))

one_small : (m i : ℕ) → m ≤ 65536 → slice_index (m ∷ []) i ≤ 65536
one_small m zero h = h
one_small m (suc i) h = omega arith

-- what a pixel that is traced gets
pub covering_small : (s : Shape) (t : Trace) (w h x y p q : ℕ) (r : List ℕ) → TracesWithin t x y p q → IsCovering s t w h x y r → (i : ℕ) → slice_index r i ≤ 65536
covering_small s t w h x y p q r within given i =
    let column = natural (column_before t x y) within.column.low in
    let row = natural (row_before t x y) within.row.low in
    let value = given.value column.0 row.0 (record { column = column.1; row = row.1 }) in
    rw value (one_small _ i (coverage_small s w h t.level column.0 row.0))

-- a row of covered pixels
pub covering_row : (s : Shape) (t : Trace) (w h x y n : ℕ) (row : List ℕ) → length row ≡ n * 1
    → ((k u v : ℕ) → k < n → Traces t (x + k) y u v → slice_index row k ≡ coverage_at s w h t.level u v)
    → ((k : ℕ) (r : List ℕ) → k < n → IsCovering s t w h (x + k) y r → (i : ℕ) → slice_index r i ≤ 1048575)
    → IsRow (IsCovering s t w h) x y 1 n row
covering_row s t w h x y n row len is top =
    let given : (k : ℕ) → k < n → IsCovering s t w h (x + k) y (slice_index row k ∷ []) = (λ k below. record { value = λ u v traces. ap (λ m. m ∷ []) (is k u v below traces) }) in
    record {
      pixels = λ k below. record {
        answer = slice_index row k ∷ [];
        given = given k below;
        same = λ c small. let none : c ≡ 0 = omega arith in rw none (ap (slice_index row) (let e : k ≡ k * 1 + 0 = omega arith in e));
      };
      top = λ i. ⊎_elim
          (λ (below : i < n). top i (slice_index row i ∷ []) below (given i below) 0)
          (λ (past : n ≤ i). rw (get_or_past row i 0 (omega arith)) (omega arith))
          (cases_lt i n);
    }

-- ---- ellipses

-- the line's pixels are covered as the ellipse covers the pixels to which they are traced
pub ellipse_covers : (t : Trace) (w h cx cy : ℕ) (ux uy : ℤ) (a b feather x y k u v : ℕ) (l : Line) (e : Edge) → IsLineOf t w h cx cy ux uy x y l
    → e.a ≡ a → e.b ≡ b → e.feather ≡ feather → e.rim ≡ rim ux uy a b → Traces t (x + k) y u v
    → ellipse_at l e k ≡ coverage_at (Ellipse cx cy ux uy a b feather) w h t.level u v
ellipse_covers t w h cx cy ux uy a b feather x y k u v l e line a_is b_is feather_is rim_is traces =
    let p = line.along_is k u v traces in
    let q = line.across_is k u v traces in
    (λ i. faded (feather_is i) (65536 * far_out (p i) (q i) (a_is i) (b_is i) / rim_is i))
