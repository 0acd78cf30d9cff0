-- quotients at a scale, in two parts
use Rattle.std.proofs.Common.{◌≡◌, ℕ, zero, suc, ◌+◌, ◌-◌, ◌*◌, ◌/◌, ◌%◌, ◌^◌, ◌<◌, ◌≤◌, refl, sym, ap, ◌∙◌, arith}
use Rattle.std.specs.Prelude.{ℤ, pos, negsuc, ◌+ℤ◌, ◌*ℤ◌, ◌≤ℤ◌, ◌<ℤ◌}
use Rattle.std.proofs.lemmas.Int.{ints}
use Rattle.std.proofs.Math.IntN.{suc_ℤ-*ℤ, zero-*ℤ}
use Rattle.std.proofs.lemmas.Nat.{pow-add}
use Rattle.std.proofs.Math.Nat.{div-div-eq-div-mul}
use Rattle.px.specs.Number.{floor_div}

-- what is left over is at least 0 and below 256
record IsFloor (z q : ℤ) : Type 0 where
  pub low : (q *ℤ pos 256) ≤ℤ z
  pub high : z <ℤ (q *ℤ pos 256 +ℤ pos 256)

is_floor : (z : ℤ) → IsFloor z (floor_div z 256)
is_floor (pos a) = record { low = omega (arith, ints); high = omega (arith, ints) }
is_floor (negsuc a) = record { low = omega (arith, ints); high = omega (arith, ints) }

-- a whole part comes out of the quotient
pub floor_apart : (h l : ℤ) → floor_div (h *ℤ pos 256 +ℤ l) 256 ≡ h +ℤ floor_div l 256
floor_apart h l =
    let all = is_floor (h *ℤ pos 256 +ℤ l) in
    let part = is_floor l in
    omega (arith, ints, all.low, all.high, part.low, part.high)

floor_twice : (z : ℤ) (n : ℕ) → floor_div z (256 * n) ≡ floor_div (floor_div z 256) n
floor_twice (pos a) n = ap pos (sym (div-div-eq-div-mul a 256 n))
floor_twice (negsuc a) n = ap negsuc (sym (div-div-eq-div-mul a 256 n))

-- a quotient from its parts
pub floor_joined : (h l : ℤ) (shift : ℕ) → 8 ≤ shift → floor_div (h +ℤ floor_div l 256) (2 ^ (shift - 8)) ≡ floor_div (h *ℤ pos 256 +ℤ l) (2 ^ shift)
floor_joined h l shift least =
    let whole : 8 + (shift - 8) ≡ shift = omega arith in
    let scale : 2 ^ shift ≡ 256 * 2 ^ (shift - 8) = ap (λ n. 2 ^ n) (sym whole) ∙ pow-add 2 8 (shift - 8) in
    rw (scale, floor_twice, floor_apart) refl

-- a product with a natural number is that with its upper part and that with its lower one
pub by_parts : (m : ℤ) (v : ℕ) → (m *ℤ pos (v / 256)) *ℤ pos 256 +ℤ m *ℤ pos (v % 256) ≡ m *ℤ pos v
by_parts (pos a) v =
    let whole : a * v ≡ a * (v / 256) * 256 + a * (v % 256) = (let e : v ≡ v / 256 * 256 + v % 256 = omega arith in ap (λ n. a * n) e ∙ omega arith) in
    omega (arith, ints, whole)
by_parts (negsuc a) v =
    let whole : suc a * v ≡ suc a * (v / 256) * 256 + suc a * (v % 256) = (let e : v ≡ v / 256 * 256 + v % 256 = omega arith in ap (λ n. suc a * n) e ∙ omega arith) in
    omega (arith, ints, whole)

-- what is left over of a quotient is at least 0 and below the divisor
record IsQuotient (z q : ℤ) (n : ℕ) : Type 0 where
  pub low : (q *ℤ pos n) ≤ℤ z
  pub high : z <ℤ (q *ℤ pos n +ℤ pos n)

by_16 : (z : ℤ) → IsQuotient z (floor_div z 16) 16
by_16 (pos a) = record { low = omega (arith, ints); high = omega (arith, ints) }
by_16 (negsuc a) = record { low = omega (arith, ints); high = omega (arith, ints) }

by_4096 : (z : ℤ) → IsQuotient z (floor_div z 4096) 4096
by_4096 (pos a) = record { low = omega (arith, ints); high = omega (arith, ints) }
by_4096 (negsuc a) = record { low = omega (arith, ints); high = omega (arith, ints) }

by_65536 : (z : ℤ) → IsQuotient z (floor_div z 65536) 65536
by_65536 (pos a) = record { low = omega (arith, ints); high = omega (arith, ints) }
by_65536 (negsuc a) = record { low = omega (arith, ints); high = omega (arith, ints) }

-- a product by the parts of its factor
product_apart : (part : ℕ) (v upper lower : ℤ) → v ≡ upper *ℤ pos 4096 +ℤ lower → pos part *ℤ v ≡ (pos part *ℤ upper) *ℤ pos 4096 +ℤ pos part *ℤ lower
product_apart zero v upper lower e = omega (arith, ints, zero-*ℤ v, zero-*ℤ upper, zero-*ℤ lower)
product_apart (suc part) v upper lower e =
    let more : (z : ℤ) → pos (suc part) *ℤ z ≡ pos part *ℤ z +ℤ z = λ z. suc_ℤ-*ℤ (pos part) z in
    omega (arith, ints, more v, more upper, more lower, product_apart part v upper lower e, e)

-- a part of a number, by the parts of the number
pub part_joined : (part : ℕ) (v upper lower : ℤ) → v ≡ upper *ℤ pos 4096 +ℤ lower
    → floor_div (pos part *ℤ upper +ℤ floor_div (pos part *ℤ lower) 4096) 16 ≡ floor_div (pos part *ℤ v) 65536
part_joined part v upper lower e =
    let whole = product_apart part v upper lower e in
    let under = by_4096 (pos part *ℤ lower) in
    let all = by_65536 (pos part *ℤ v) in
    let joined = by_16 (pos part *ℤ upper +ℤ floor_div (pos part *ℤ lower) 4096) in
    omega (arith, ints, whole, under.low, under.high, all.low, all.high, joined.low, joined.high)
