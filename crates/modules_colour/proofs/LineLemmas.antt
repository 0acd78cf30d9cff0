-- a line between two nodes
use Rattle.std.proofs.Common.{◌≡◌, ℕ, zero, suc, ◌+◌, ◌-◌, ◌*◌, ◌/◌, ◌<◌, ◌≤◌, min, sym, ap, ◌∙◌, ⊎_elim, arith}
use Rattle.std.specs.Prelude.{pos, negsuc, ◌+ℤ◌, ◌-ℤ◌, ◌*ℤ◌, neg_ℤ}
use Rattle.std.proofs.lemmas.Nat.{div-mul-add}
use Rattle.std.proofs.lemmas.Int.{ints}
use Rattle.std.proofs.Math.Nat.{mul-le-mul_left}
use Rattle.std.proofs.lemmas.Bool.{cases_lt}
use Rattle.px.specs.Number.{floor_div, clamp}
use Rattle.modules_colour.specs.Curving.{between}
use Rattle.modules_colour.specs.Stepping.{weighed, IsSlope, IsSplit}

pub quotient_is : (n d q r : ℕ) → q * d + r ≡ n → r < d → n / d ≡ q
quotient_is n d q r e h = ap (λ m. m / d) (sym e) ∙ div-mul-add q d r h

-- quotients are in the order of what is divided
pub quotient_le : (y d left z : ℕ) → y * d + left ≤ z * d → 0 < d → y ≤ z
quotient_le y d left z e h = ⊎_elim
    (λ (above : z < y). let up : z + 1 ≤ y = omega arith in absurd (omega (arith, mul-le-mul_left d up)))
    (λ (fine : y ≤ z). fine)
    (cases_lt z y)

rising : (p e k d y left : ℕ) → k ≤ d → p + e ≤ 1048575 → y * d + left ≡ p * d + k * e → left < d → min (p + k * e / d) 1048575 ≡ y
rising p e k d y left within top split less =
    let low : p ≤ y = ⊎_elim
    (λ (under : y < p). let up : y + 1 ≤ p = omega arith in absurd (omega (arith, mul-le-mul_left d up)))
    (λ (fine : p ≤ y). fine) (cases_lt y p) in
    let rest : (y - p) * d + left ≡ k * e = let back : y ≡ p + (y - p) = omega arith in let both : y * d ≡ p * d + (y - p) * d = ap (λ n. n * d) back ∙ omega arith in omega arith in
    let q = quotient_is (k * e) d (y - p) left rest less in
    let most : k * e ≤ d * e = omega (arith, mul-le-mul_left e within) in
    let high : y ≤ p + e = quotient_le y d left (p + e) (omega arith) (omega arith) in
    rw q (omega arith)

times : (a b c d : ℕ) → b ≡ c + d → a * b ≡ a * c + a * d
times a b c d e = ap (λ n. a * n) e ∙ omega arith

falling : (p m d y left : ℕ) → p ≤ 1048575 → y * d + left + m ≡ p * d → left < d → clamp (pos p +ℤ floor_div (neg_ℤ (pos m)) d) ≡ y
falling p zero d y left top split less =
    let whole : y * d + left ≡ p * d = omega arith in
    let y_is : p ≡ y = sym (quotient_is (p * d) d p 0 (omega arith) (omega arith)) ∙ quotient_is (p * d) d y left whole less in
    let none = quotient_is 0 d 0 0 (omega arith) (omega arith) in
    rw none (omega arith)
falling p (suc n) d y left top split less =
    let under : y < p = ⊎_elim (λ (fine : y < p). fine)
    (λ (above : p ≤ y). absurd (omega (arith, mul-le-mul_left d above)))
    (cases_lt y p) in
    let t = p - (y + 1) in
    let back : p * d ≡ (y + 1) * d + t * d = let e : p ≡ (y + 1) + t = omega arith in ap (λ n. n * d) e ∙ omega arith in
    let q = quotient_is n d t (d - 1 - left) (omega arith) (omega arith) in
    let sum : pos p +ℤ negsuc t ≡ pos y = omega (arith, ints) in
    rw (q, sum) (omega arith)

-- the running quotient is the formula
pub line_is : (p q k d y left : ℕ) → k ≤ d → p ≤ 1048575 → q ≤ 1048575 → y * d + left ≡ p * (d - k) + q * k → left < d
    → clamp (pos p +ℤ floor_div (pos k *ℤ (pos q -ℤ pos p)) d) ≡ y
line_is p q k d y left within first second split less =
    let all : p * d ≡ p * (d - k) + p * k = times p d (d - k) k (omega arith) in
    ⊎_elim
    (λ (down : q < p).
    let e : pos q -ℤ pos p ≡ negsuc (p - q - 1) = omega (arith, ints) in
    let part : k * p ≡ k * q + k * suc (p - q - 1) = times k p q (suc (p - q - 1)) (omega arith) in
    rw e (falling p (k * suc (p - q - 1)) d y left first (omega arith) less))
    (λ (up : p ≤ q).
    let e : pos q -ℤ pos p ≡ pos (q - p) = omega (arith, ints) in
    let part : k * q ≡ k * p + k * (q - p) = times k q p (q - p) (omega arith) in
    rw e (rising p (q - p) k d y left within (omega arith) (omega arith) less))
    (cases_lt q p)

-- the outputs weighed, one value on
pub weighed_more : (a b : ℕ × ℕ) (v : ℕ) → a.0 ≤ v → v < b.0 → weighed a b (v + 1) + a.1 ≡ weighed a b v + b.1
weighed_more a b v low high =
    let m = b.0 - (v + 1) in
    let k = v - a.0 in
    let m_is : b.0 - v ≡ m + 1 = omega arith in
    let k_is : v + 1 - a.0 ≡ k + 1 = omega arith in
    rw (m_is, k_is) (omega arith)

pub weighed_most : (a b : ℕ × ℕ) (v : ℕ) → a.1 ≤ 1048575 → b.1 ≤ 1048575 → a.0 ≤ v → v ≤ b.0 → weighed a b v ≤ 1048575 * (b.0 - a.0)
weighed_most a b v first second low high =
    let m = b.0 - v in
    let k = v - a.0 in
    let d_is : b.0 - a.0 ≡ m + k = omega arith in
    rw d_is (omega (arith, mul-le-mul_left m first, mul-le-mul_left k second))

pub sub_times : (z w s : ℕ) → w ≤ z → (z - w) * s + w * s ≡ z * s
sub_times z w s h = let back : z ≡ (z - w) + w = omega arith in let both : z * s ≡ (z - w) * s + w * s = ap (λ n. n * s) back ∙ omega arith in sym both

-- no more is taken away than there is
pub stays_up : (down z over size : ℕ) → down * size ≤ z * size + over → over < size → down ≤ z
stays_up down z over size h less = ⊎_elim
    (λ (above : z < down). let up : z + 1 ≤ down = omega arith in absurd (omega (arith, mul-le-mul_left size up)))
    (λ (fine : down ≤ z). fine)
    (cases_lt z down)

pub one_step : (z w s over whole : ℕ) → w ≤ z → z * s + over ≡ whole → (z - w) * s + over + w * s ≡ whole
one_step z w s over whole h e = let back = sub_times z w s h in omega arith

-- the running quotient and remainder, one value on
pub split_more : (a b : ℕ × ℕ) (v y left y' left' up down rest size : ℕ) → size ≡ b.0 - a.0 → a.0 ≤ v → v < b.0
    → IsSlope a.1 b.1 size up down rest → IsSplit (weighed a b v) size y left
    → y' * size + left' + down * size ≡ y * size + left + up * size + rest → left' < size
    → IsSplit (weighed a b (v + 1)) size y' left'
split_more a b v y left y' left' up down rest size e low high slope was step less =
    let more = weighed_more a b v low high in
    record { whole_is = omega (arith, slope.slope_is, was.whole_is, more); less = less }

pub split_stays : (a b : ℕ × ℕ) (v y left up down rest size : ℕ) → a.0 ≤ v → v < b.0
    → IsSlope a.1 b.1 size up down rest → IsSplit (weighed a b v) size y left
    → down * size ≤ y * size + left + up * size + rest
split_stays a b v y left up down rest size low high slope was =
    let more = weighed_more a b v low high in omega (arith, slope.slope_is, was.whole_is, more)

pub split_low : (a b : ℕ × ℕ) (v y left : ℕ) → a.0 < b.0 → a.1 ≤ 1048575 → b.1 ≤ 1048575 → a.0 ≤ v → v ≤ b.0
    → IsSplit (weighed a b v) (b.0 - a.0) y left → y ≤ 1048575
split_low a b v y left rise first second low high was =
    let most = weighed_most a b v first second low high in
    quotient_le y (b.0 - a.0) left 1048575 (omega (arith, was.whole_is, most)) (omega arith)

pub split_first : (a b : ℕ × ℕ) → a.0 < b.0 → IsSplit (weighed a b a.0) (b.0 - a.0) a.1 0
split_first a b rise = record { whole_is = (let z : a.0 - a.0 ≡ 0 = omega arith in rw z (omega arith)); less = omega arith }

pub between_is : (a b : ℕ × ℕ) (v y left : ℕ) → a.0 < b.0 → a.1 ≤ 1048575 → b.1 ≤ 1048575 → a.0 ≤ v → v < b.0
    → IsSplit (weighed a b v) (b.0 - a.0) y left → y ≡ between a b v
between_is a b v y left rise first second low high was =
    let far : b.0 - v ≡ (b.0 - a.0) - (v - a.0) = omega arith in
    let split : y * (b.0 - a.0) + left ≡ a.1 * ((b.0 - a.0) - (v - a.0)) + b.1 * (v - a.0) = was.whole_is ∙ ap (λ n. a.1 * n + b.1 * (v - a.0)) far in
    sym (line_is a.1 b.1 (v - a.0) (b.0 - a.0) y left (omega arith) first second split was.less)
