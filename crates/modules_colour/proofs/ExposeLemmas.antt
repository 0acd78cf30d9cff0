-- exposed rows
use Rattle.std.proofs.Common.{◌≡◌, ℕ, zero, suc, ◌+◌, ◌-◌, ◌*◌, ◌/◌, ◌^◌, ◌<◌, ◌≤◌, List, [], ◌∷◌, map, length, slice_index, sym, ap, ◌∙◌, ⊎_elim, arith, lit<}
use Rattle.std.specs.Prelude.{ℤ, pos, negsuc, neg_ℤ, ◌+ℤ◌, ◌-ℤ◌, ◌*ℤ◌}
use Rattle.std.proofs.lemmas.Bool.{cases_lt}
use Rattle.std.proofs.lemmas.List.{get_or_past}
use Rattle.std.proofs.lemmas.Nat.{div-mul-add, pow-add}
use Rattle.std.proofs.Math.Nat.{div-div-eq-div-mul, mul-div-mul_right}
use Rattle.params.specs.Form.{natural_of}
use Rattle.params.specs.declared.settings.Exposure.{Exposure}
use Rattle.px.specs.declared.kind.PlaneKind.TheVariants.{Rgb}
use Rattle.px.specs.Cut.{Cut, place, value_at, rgb_at}
use Rattle.px.specs.Number.{floor_div, clamp}
use Rattle.px.specs.Painted.{IsRow}
use Rattle.px.proofs.RowLemmas.{value_fits}
use Rattle.px.proofs.MadeLemmas.{row_of_values, along_row}
use Rattle.modules_colour.specs.Exposing.{raised, exposed}
use Rattle.modules_colour.proofs.MixLemmas.{clamp_top, three_tops}

-- a number below 0 and its scale, both made larger
below_zero : (x n m : ℕ) → 0 < m → floor_div (neg_ℤ (pos (x * m))) (n * m) ≡ floor_div (neg_ℤ (pos x)) n
below_zero zero n m some =
    let none : 0 * m ≡ 0 = omega arith in
    let nothing : 0 / (n * m) ≡ 0 / n = ap (λ k. k / (n * m)) (sym none) ∙ mul-div-mul_right 0 n some in
    ap (λ k. floor_div (neg_ℤ (pos k)) (n * m)) none ∙ ap pos nothing
below_zero (suc x) n m some =
    let more : suc x * m ≡ suc (x * m + (m - 1)) = omega arith in
    let first : (x * m + (m - 1)) / m ≡ x = div-mul-add x m (m - 1) (omega arith) in
    let order : n * m ≡ m * n = omega arith in
    let same : (x * m + (m - 1)) / (n * m) ≡ x / n = ap (λ k. (x * m + (m - 1)) / k) order ∙ (sym (div-div-eq-div-mul (x * m + (m - 1)) m n) ∙ ap (λ k. k / n) first) in
    ap (λ k. floor_div (neg_ℤ (pos k)) (n * m)) more ∙ ap negsuc same

-- a factor and the scale, both made larger
floor_times : (z : ℤ) (g n m : ℕ) → 0 < m → floor_div (z *ℤ pos (g * m)) (n * m) ≡ floor_div (z *ℤ pos g) n
floor_times (pos a) g n m some =
    let same : a * (g * m) ≡ a * g * m = omega arith in
    ap pos (ap (λ k. k / (n * m)) same ∙ mul-div-mul_right (a * g) n some)
floor_times (negsuc a) g n m some =
    let same : suc a * (g * m) ≡ suc a * g * m = omega arith in
    ap (λ k. floor_div (neg_ℤ (pos k)) (n * m)) same ∙ below_zero (suc a * g) n m some

some_power : (k : ℕ) → 0 < 2 ^ k
some_power zero = lit< tt
some_power (suc k) =
    let before = some_power k in
    let next : suc k ≡ k + 1 = omega arith in
    let twice : 2 ^ suc k ≡ 2 ^ k * 2 = ap (λ n. 2 ^ n) next ∙ pow-add 2 k 1 in
    omega (arith, before, twice)

-- the stops as a scale of the gain
pub exposed_is : (e : Exposure) (scale v : ℕ) → natural_of (e.stops +ℤ pos 4) ≤ 16 → scale ≡ 16 - natural_of (e.stops +ℤ pos 4)
    → clamp (floor_div ((pos v -ℤ e.black) *ℤ pos e.gain) (2 ^ scale)) ≡ exposed e v
exposed_is e scale v few is =
    let k = natural_of (e.stops +ℤ pos 4) in
    let sum : scale + k ≡ 16 = omega arith in
    let whole : 2 ^ scale * 2 ^ k ≡ 65536 = sym (pow-add 2 scale k) ∙ ap (λ n. 2 ^ n) sum in
    ap clamp (sym (floor_times (pos v -ℤ e.black) e.gain (2 ^ scale) (2 ^ k) (some_power k)) ∙ ap (floor_div ((pos v -ℤ e.black) *ℤ pos (e.gain * raised e.stops))) whole)

pub exposed_tops : (e : Exposure) (a b c i : ℕ) → slice_index (map (exposed e) (a ∷ b ∷ c ∷ [])) i ≤ 1048575
exposed_tops e a b c i = three_tops _ _ _ (clamp_top _) (clamp_top _) (clamp_top _) i

-- a row exposed from a plane's row has the exposed pixels of the plane
pub exposed_row : (e : Exposure) (p : Cut) (x y n : ℕ) (from row : List ℕ) → p.kind ≡ Rgb → p.area.x ≤ x
    → ((i : ℕ) → i < n * 3 → slice_index from i ≡ slice_index p.values (place p x y + i)) → length row ≡ n * 3
    → ((i : ℕ) → i < n * 3 → slice_index row i ≡ exposed e (slice_index from i))
    → IsRow (λ u v r. r ≡ map (exposed e) (rgb_at p u v)) x y 3 n row
exposed_row e p x y n from row rgb left read len done =
    row_of_values (λ u v c. exposed e (value_at p u v c)) x y n row
    (λ k c below d. done (k * 3 + c) (value_fits k n 3 c below d) ∙ ap (exposed e) (along_row p x y n k c from rgb left read below d))
    (λ i. ⊎_elim
    (λ (within : i < n * 3). rw (done i within) (clamp_top _))
    (λ (past : n * 3 ≤ i). rw (get_or_past row i 0 (rw len past)) (omega arith))
    (cases_lt i (n * 3)))
