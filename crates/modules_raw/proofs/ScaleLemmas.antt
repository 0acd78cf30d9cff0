-- a division by a product and a shift
use Rattle.std.proofs.Common.{◌≡◌, ℕ, ◌+◌, ◌*◌, ◌/◌, ◌%◌, ◌<◌, ◌≤◌, ap, ⊎_elim, arith}
use Rattle.std.specs.Prelude.{min}
use Rattle.std.proofs.Math.Nat.{mul-le-mul_left}
use Rattle.std.proofs.lemmas.Bool.{cases_lt}
use Rattle.std.proofs.lemmas.Nat.{div-add-mod', mod_below}
use Rattle.modules_raw.specs.Preparing.{scaled, IsFactor}

-- the factor is rounded up by so little that the quotient is the same
quotient_is : (range d : ℕ) → 0 < range → d * range < 68719476736 → d * (65535 * 68719476736 / range + 1) / 68719476736 ≡ d * 65535 / range
quotient_is range d some small =
    let f = 65535 * 68719476736 / range in
    let s = 65535 * 68719476736 % range in
    let q = d * 65535 / range in
    let t = d * 65535 % range in
    let whole : q * range + t ≡ d * 65535 = div-add-mod' (d * 65535) range in
    let factor : f * range + s ≡ 65535 * 68719476736 = div-add-mod' (65535 * 68719476736) range in
    let s_less : s < range = mod_below (65535 * 68719476736) range some in
    let t_less : t < range = mod_below (d * 65535) range some in
    let times : d * (f * range + s) ≡ d * (65535 * 68719476736) = ap (λ n. d * n) factor in
    let over : d * s ≤ d * range = mul-le-mul_left d (omega (arith, s_less)) in
    let low : q * 68719476736 ≤ d * (f + 1) = ⊎_elim
    (λ (less : d * (f + 1) < q * 68719476736).
    let up : d * (f + 1) + 1 ≤ q * 68719476736 = omega (arith, less) in
    absurd (omega (arith, whole, times, over, mul-le-mul_left range up, some)))
    (λ (h : q * 68719476736 ≤ d * (f + 1)). h)
    (cases_lt (d * (f + 1)) (q * 68719476736)) in
    let high : d * (f + 1) < (q + 1) * 68719476736 = ⊎_elim
    (λ (h : d * (f + 1) < (q + 1) * 68719476736). h)
    (λ (more : (q + 1) * 68719476736 ≤ d * (f + 1)).
    absurd (omega (arith, whole, times, mul-le-mul_left range more, t_less, small)))
    (cases_lt (d * (f + 1)) ((q + 1) * 68719476736)) in
    omega (arith, low, high)

small_product : (range d : ℕ) → range ≤ 65535 → d ≤ 1048575 → d * range < 68719476736
small_product range d small top = omega (arith, mul-le-mul_left range top, small)

-- seventeen times as far as white is more than any sample
at_top : (range d : ℕ) → 0 < range → 17 * range ≤ d → 1048575 ≤ d * 65535 / range
at_top range d some far =
    let q = d * 65535 / range in
    let t = d * 65535 % range in
    let whole : q * range + t ≡ d * 65535 = div-add-mod' (d * 65535) range in
    let t_less : t < range = mod_below (d * 65535) range some in
    ⊎_elim
    (λ (less : q < 1114095).
    let up : q + 1 ≤ 1114095 = omega (arith, less) in
    absurd (omega (arith, whole, t_less, far, mul-le-mul_left range up)))
    (λ (h : 1114095 ≤ q). omega (arith, h))
    (cases_lt q 1114095)

-- what is further away than that is at the top with it
pub scaled_is : (range factor d : ℕ) → IsFactor range factor → d ≤ 1048575 → min (min d (17 * range) * factor / 68719476736) 1048575 ≡ scaled range d
scaled_is range factor d is top = ⊎_elim
    (λ (past : 17 * range < d).
    let least : min d (17 * range) ≡ 17 * range = omega arith in
    let cut = quotient_is range (17 * range) is.some (small_product range (17 * range) is.small (omega arith)) in
    let one = at_top range (17 * range) is.some (omega arith) in
    let other = at_top range d is.some (omega arith) in
    rw (is.factor_is, least, cut) (omega (arith, one, other)))
    (λ (near : d ≤ 17 * range).
    let least : min d (17 * range) ≡ d = omega arith in
    rw (is.factor_is, least, quotient_is range d is.some (small_product range d is.small top)) (omega arith))
    (cases_lt (17 * range) d)

-- the product fits
pub fits_product : (range factor d : ℕ) → IsFactor range factor → min d (17 * range) * factor < 18446744073709551616
fits_product range factor d is =
    let f = 65535 * 68719476736 / range in
    let whole : f * range + 65535 * 68719476736 % range ≡ 65535 * 68719476736 = div-add-mod' (65535 * 68719476736) range in
    let most : min d (17 * range) ≤ 17 * range = omega arith in
    rw is.factor_is (omega (arith, mul-le-mul_left (f + 1) most, whole, is.small))
