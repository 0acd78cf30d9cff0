-- convex sequences
use Rattle.std.proofs.Common.{◌≡◌, ℕ, zero, suc, ◌+◌, ◌-◌, ◌*◌, ◌<◌, ◌≤◌, ⊎_elim, arith}
use Rattle.std.proofs.lemmas.Bool.{cases_lt}

pub record IsConvex (f : ℕ → ℕ) : Type 0 where
  pub bend : ℕ
  pub second : (k : ℕ) → f k + f (k + 2) ≡ 2 * f (k + 1) + bend

rises_on : (f : ℕ → ℕ) → IsConvex f → (k n : ℕ) → f k ≤ f (k + 1) → f (k + n) ≤ f (k + n + 1)
rises_on f convex k zero h = let e : k + 0 ≡ k = omega arith in rw e h
rises_on f convex k (suc n) h =
    let before = rises_on f convex k n h in
    let s = convex.second (k + n) in
    let e : k + suc n ≡ k + n + 1 = omega arith in
    let d : k + n + 1 + 1 ≡ k + n + 2 = omega arith in
    rw (e, d) (omega arith)

rises_to : (f : ℕ → ℕ) → IsConvex f → (k n : ℕ) → f k ≤ f (k + 1) → f k ≤ f (k + n)
rises_to f convex k zero h = let e : k + 0 ≡ k = omega arith in rw e (omega arith)
rises_to f convex k (suc n) h =
    let before = rises_to f convex k n h in
    let on = rises_on f convex k n h in
    let e : k + suc n ≡ k + n + 1 = omega arith in
    rw e (omega arith)

-- from a place where it doesn't fall any more, it doesn't fall
pub rises : (f : ℕ → ℕ) → IsConvex f → (k m : ℕ) → f k ≤ f (k + 1) → k ≤ m → f k ≤ f m
rises f convex k m h le = let e : k + (m - k) ≡ m = omega arith in rw e at (rises_to f convex k (m - k) h)

-- up to a place where it doesn't rise yet, it doesn't rise
falls_to : (f : ℕ → ℕ) → IsConvex f → (k n : ℕ) → f (k + n + 1) ≤ f (k + n) → f (k + n + 1) ≤ f k
falls_to f convex k zero h = let e : k + 0 ≡ k = omega arith in rw e (rw e at h)
falls_to f convex k (suc n) h =
    let e : k + suc n ≡ k + n + 1 = omega arith in
    let d : k + n + 1 + 1 ≡ k + n + 2 = omega arith in
    let s = convex.second (k + n) in
    let last : f (k + n + 2) ≤ f (k + n + 1) = rw (e, d) at h in
    let before = falls_to f convex k n (omega arith) in
    rw (e, d) (omega arith)

pub falls : (f : ℕ → ℕ) → IsConvex f → (k m : ℕ) → k ≤ m → f (m + 1) ≤ f m → f (m + 1) ≤ f k
falls f convex k m le h = let e : k + (m - k) ≡ m = omega arith in (rw e at (falls_to f convex k (m - k) (rw e h)))

-- in between it is no greater than at one of the ends
pub between_ends : (f : ℕ → ℕ) → IsConvex f → (P : ℕ → Type 0) → ((m n : ℕ) → m ≤ n → P n → P m) → (i k j : ℕ) → i ≤ k → k < j → P (f i) → P (f j) → P (f k)
between_ends f convex P down i zero j low high pi pj = let e : i ≡ 0 = omega arith in rw e at pi
between_ends f convex P down i (suc m) j low high pi pj = ⊎_elim
    (λ (first : m < i). let e : i ≡ suc m = omega arith in rw e at pi)
    (λ (later : i ≤ m). let e : suc m ≡ m + 1 = omega arith in rw e (⊎_elim
    (λ (up : f m < f (m + 1)). down (f (m + 1)) (f j) (rises f convex (m + 1) j (let on = rises_on f convex m 1 (omega arith) in on) (omega arith)) pj)
    (λ (falling : f (m + 1) ≤ f m). down (f (m + 1)) (f i) (falls f convex i m later falling) pi)
    (cases_lt (f m) (f (m + 1)))))
    (cases_lt m i)
