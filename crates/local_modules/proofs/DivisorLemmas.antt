-- a division by a product and a shift
use Rattle.std.proofs.Common.{◌≡◌, ℕ, ◌+◌, ◌*◌, ◌/◌, ◌%◌, ◌<◌, ◌≤◌, ap, ⊎_elim, arith}
use Rattle.std.proofs.Math.Nat.{mul-le-mul_left}
use Rattle.std.proofs.lemmas.Bool.{cases_lt}
use Rattle.std.proofs.lemmas.Nat.{mul-le, div_below, div-add-mod', mod_below}

-- the inverse is rounded down, and the number one more, by so little that the quotient is the same
pub quotient_is : (s n : ℕ) → 0 < n → (s + 1) * n ≤ 18446744073709551616 → (s + 1) * (18446744073709551615 / n) / 18446744073709551616 ≡ s / n
quotient_is s n some small =
    let m = 18446744073709551615 / n in
    let t = 18446744073709551615 % n in
    let q = s / n in
    let u = s % n in
    let whole : q * n + u ≡ s = div-add-mod' s n in
    let inverse : m * n + t ≡ 18446744073709551615 = div-add-mod' 18446744073709551615 n in
    let t_less : t < n = mod_below 18446744073709551615 n some in
    let u_less : u < n = mod_below s n some in
    let times : (s + 1) * (m * n + t) ≡ (s + 1) * 18446744073709551615 = ap (λ k. (s + 1) * k) inverse in
    let over : (s + 1) * (t + 1) ≤ (s + 1) * n = mul-le-mul_left (s + 1) (omega (arith, t_less)) in
    let low : q * 18446744073709551616 ≤ (s + 1) * m = ⊎_elim
    (λ (less : (s + 1) * m < q * 18446744073709551616).
    let up : (s + 1) * m + 1 ≤ q * 18446744073709551616 = omega (arith, less) in
    absurd (omega (arith, whole, times, over, small, mul-le-mul_left n up, some)))
    (λ (h : q * 18446744073709551616 ≤ (s + 1) * m). h)
    (cases_lt ((s + 1) * m) (q * 18446744073709551616)) in
    let high : (s + 1) * m < (q + 1) * 18446744073709551616 = ⊎_elim
    (λ (h : (s + 1) * m < (q + 1) * 18446744073709551616). h)
    (λ (more : (q + 1) * 18446744073709551616 ≤ (s + 1) * m).
    absurd (omega (arith, whole, times, mul-le-mul_left n more, u_less)))
    (cases_lt ((s + 1) * m) ((q + 1) * 18446744073709551616)) in
    omega (arith, low, high)

-- what a product of the number one more and the inverse gives
pub mean_is : (s n m a b : ℕ) → 0 < n → n ≤ 4194304 → m ≡ 18446744073709551615 / n → s ≤ n * 1048575 → a ≡ s + 1 → b ≡ m → a * b / 18446744073709551616 ≡ s / n
mean_is s n m a b some few inverse small a_is b_is =
    let e : b ≡ 18446744073709551615 / n = omega (arith, b_is, inverse) in
    let most : (s + 1) * n ≤ 4398042316801 * 4194304 = mul-le (s + 1) n 4398042316801 4194304 (omega (arith, small, few)) few in
    rw (a_is, e) (quotient_is s n some (omega (arith, most)))

pub mean_top : (s n : ℕ) → 0 < n → s ≤ n * 1048575 → s / n ≤ 1048575
mean_top s n some small = let below = div_below s n 1048576 some (omega (arith, small, some)) in omega (arith, below)
