-- products of signed numbers
use Rattle.std.proofs.Common.{◌≡◌, ℕ, zero, suc, ◌*◌, ◌≤◌, refl, ap, ◌∙◌, arith}
use Rattle.std.specs.Prelude.{ℤ, pos, negsuc, ◌+ℤ◌, ◌-ℤ◌, ◌*ℤ◌, unsigned_abs}
use Rattle.std.proofs.lemmas.Int.{ints, unsigned_abs-mul}
use Rattle.std.proofs.lemmas.Nat.{mul-le}
use Rattle.std.proofs.Math.IntN.{suc_ℤ, pred_ℤ, suc_ℤ-*ℤ, pred_ℤ-*ℤ, +ℤ-suc_ℤ, +ℤ-pred_ℤ, -ℤ_one, zero-*ℤ, *ℤ_comm}

pub small_product : (x d : ℤ) → unsigned_abs d ≤ 1024 → unsigned_abs (x *ℤ d) ≤ unsigned_abs x * 1024
small_product x d small = rw (unsigned_abs-mul x d) (mul-le (unsigned_abs x) (unsigned_abs d) (unsigned_abs x) 1024 (omega arith) small)

dist_pos : (a u : ℤ) (n : ℕ) → (a +ℤ pos n) *ℤ u ≡ a *ℤ u +ℤ pos n *ℤ u
dist_pos a u zero =
    let e : a +ℤ pos zero ≡ a = omega (arith, ints) in
    ap (λ z. z *ℤ u) e ∙ (let h : pos zero *ℤ u ≡ pos zero = zero-*ℤ u in omega (arith, ints))
dist_pos a u (suc n) =
    let e : a +ℤ pos (suc n) ≡ suc_ℤ (a +ℤ pos n) = +ℤ-suc_ℤ a (pos n) in
    let h = dist_pos a u n in
    let j = suc_ℤ-*ℤ (a +ℤ pos n) u in
    let k : pos (suc n) *ℤ u ≡ pos n *ℤ u +ℤ u = suc_ℤ-*ℤ (pos n) u in
    ap (λ z. z *ℤ u) e ∙ (j ∙ omega (arith, ints))

dist_neg : (a u : ℤ) (n : ℕ) → (a +ℤ negsuc n) *ℤ u ≡ a *ℤ u +ℤ negsuc n *ℤ u
dist_neg a u zero =
    let e : a +ℤ negsuc zero ≡ pred_ℤ a = omega (arith, ints, -ℤ_one a) in
    let j = pred_ℤ-*ℤ a u in
    let k : negsuc zero *ℤ u ≡ pos zero *ℤ u -ℤ u = pred_ℤ-*ℤ (pos zero) u in
    let h : pos zero *ℤ u ≡ pos zero = zero-*ℤ u in
    ap (λ z. z *ℤ u) e ∙ (j ∙ omega (arith, ints))
dist_neg a u (suc n) =
    let e : a +ℤ negsuc (suc n) ≡ pred_ℤ (a +ℤ negsuc n) = +ℤ-pred_ℤ a (negsuc n) in
    let h = dist_neg a u n in
    let j = pred_ℤ-*ℤ (a +ℤ negsuc n) u in
    let k : negsuc (suc n) *ℤ u ≡ negsuc n *ℤ u -ℤ u = pred_ℤ-*ℤ (negsuc n) u in
    ap (λ z. z *ℤ u) e ∙ (j ∙ omega (arith, ints))

pub times-add : (a b u : ℤ) → (a +ℤ b) *ℤ u ≡ a *ℤ u +ℤ b *ℤ u
times-add a (pos n) u = dist_pos a u n
times-add a (negsuc n) u = dist_neg a u n

pub square_is : (z : ℤ) → z *ℤ z ≡ pos (unsigned_abs z * unsigned_abs z)
square_is (pos a) = refl
square_is (negsuc a) = omega (arith, ints)

pub square-add : (x s : ℤ) → (x +ℤ s) *ℤ (x +ℤ s) ≡ x *ℤ x +ℤ (x *ℤ s +ℤ x *ℤ s) +ℤ s *ℤ s
square-add x s =
    let a = times-add x s (x +ℤ s) in
    let b : x *ℤ (x +ℤ s) ≡ x *ℤ x +ℤ s *ℤ x = *ℤ_comm x (x +ℤ s) ∙ times-add x s x in
    let c : s *ℤ (x +ℤ s) ≡ x *ℤ s +ℤ s *ℤ s = *ℤ_comm s (x +ℤ s) ∙ times-add x s s in
    let d : s *ℤ x ≡ x *ℤ s = *ℤ_comm s x in
    omega (arith, ints)

-- a multiple of a product is the product with a multiple
pub times_steps : (k : ℕ) (d u : ℤ) → (pos k *ℤ d) *ℤ u ≡ pos k *ℤ (d *ℤ u)
times_steps zero d u = ap (λ z. z *ℤ u) (zero-*ℤ d) ∙ (let h : pos zero *ℤ u ≡ pos zero = zero-*ℤ u in let j : pos zero *ℤ (d *ℤ u) ≡ pos zero = zero-*ℤ (d *ℤ u) in omega (arith, ints))
times_steps (suc k) d u =
    let first : pos (suc k) *ℤ d ≡ pos k *ℤ d +ℤ d = suc_ℤ-*ℤ (pos k) d in
    let split = times-add (pos k *ℤ d) d u in
    let h = times_steps k d u in
    let last : pos (suc k) *ℤ (d *ℤ u) ≡ pos k *ℤ (d *ℤ u) +ℤ d *ℤ u = suc_ℤ-*ℤ (pos k) (d *ℤ u) in
    ap (λ z. z *ℤ u) first ∙ omega (arith, ints)
