-- blocks along a side
use Rattle.std.proofs.Common.{◌≡◌, ℕ, zero, suc, ◌+◌, ◌-◌, ◌*◌, ◌<◌, ◌≤◌, ◌^◌, lit≤, ap, ◌∙◌, ⊎_elim, arith}
use Rattle.std.proofs.Math.Nat.{mul-le-mul_left, mul-le-mul_right}
use Rattle.std.proofs.lemmas.Bool.{cases_lt}
use Rattle.std.proofs.lemmas.Nat.{div-add-mod', div_below, mod_below}
use Rattle.modules_raw.specs.Levels.{blocks}

-- what holds of each level's size of blocks
pub level_cases : (P : ℕ → Type 0) → P 1 → P 2 → P 4 → P 8 → P 16 → P 32 → P 64 → P 128 → P 256 → (l : ℕ) → l ≤ 8 → P (2 ^ l)
level_cases P a b c d e f g h i zero few = a
level_cases P a b c d e f g h i (suc zero) few = b
level_cases P a b c d e f g h i (suc (suc zero)) few = c
level_cases P a b c d e f g h i (suc (suc (suc zero))) few = d
level_cases P a b c d e f g h i (suc (suc (suc (suc zero)))) few = e
level_cases P a b c d e f g h i (suc (suc (suc (suc (suc zero))))) few = f
level_cases P a b c d e f g h i (suc (suc (suc (suc (suc (suc zero)))))) few = g
level_cases P a b c d e f g h i (suc (suc (suc (suc (suc (suc (suc zero))))))) few = h
level_cases P a b c d e f g h i (suc (suc (suc (suc (suc (suc (suc (suc zero)))))))) few = i
level_cases P a b c d e f g h i (suc (suc (suc (suc (suc (suc (suc (suc (suc l))))))))) few = absurd (omega arith)

pub size_small : (l : ℕ) → l ≤ 8 → 2 ^ l ≤ 256
size_small = level_cases (λ s. s ≤ 256) (omega arith) (omega arith) (omega arith) (omega arith) (omega arith) (omega arith) (omega arith) (omega arith) (omega arith)

pub size_some : (l : ℕ) → l ≤ 8 → 0 < 2 ^ l
size_some = level_cases (λ s. 0 < s) (omega arith) (omega arith) (omega arith) (omega arith) (omega arith) (omega arith) (omega arith) (omega arith) (omega arith)

-- a level's blocks have at least two columns and rows
pub size_two : (l : ℕ) → 1 ≤ l → l ≤ 8 → 2 ≤ 2 ^ l
size_two zero low few = absurd (omega arith)
size_two (suc zero) low few = lit≤ tt
size_two (suc (suc zero)) low few = lit≤ tt
size_two (suc (suc (suc zero))) low few = lit≤ tt
size_two (suc (suc (suc (suc zero)))) low few = lit≤ tt
size_two (suc (suc (suc (suc (suc zero))))) low few = lit≤ tt
size_two (suc (suc (suc (suc (suc (suc zero)))))) low few = lit≤ tt
size_two (suc (suc (suc (suc (suc (suc (suc zero))))))) low few = lit≤ tt
size_two (suc (suc (suc (suc (suc (suc (suc (suc zero)))))))) low few = lit≤ tt
size_two (suc (suc (suc (suc (suc (suc (suc (suc (suc l))))))))) low few = absurd (omega arith)

-- a block begins before the side ends
pub block_below : (size n i : ℕ) → 0 < size → i < blocks size n → i * size < n
block_below size n i some below =
    let whole = div-add-mod' (n + (size - 1)) size in
    let up : i + 1 ≤ blocks size n = omega arith in
    let less : (i + 1) * size ≤ blocks size n * size = mul-le-mul_right size up in
    omega (arith, whole, less)

pub blocks_small : (size n : ℕ) → 0 < size → blocks size n ≤ n
blocks_small size n some =
    let wider : n * 1 ≤ n * size = mul-le-mul_left n some in
    let below : blocks size n < n + 1 = div_below (n + (size - 1)) size (n + 1) some (omega (arith, wider)) in
    omega arith

pub blocks_some : (size n : ℕ) → 0 < size → 0 < n → 0 < blocks size n
blocks_some size n some wide = ⊎_elim
    (λ (none : blocks size n < 1).
    let whole = div-add-mod' (n + (size - 1)) size in
    let rest = mod_below (n + (size - 1)) size some in
    let zero_is : blocks size n ≡ 0 = omega arith in
    let none_is : blocks size n * size ≡ 0 = ap (λ d. d * size) zero_is ∙ (omega arith) in
    absurd (omega (arith, whole, rest, none_is)))
    (λ (is : 1 ≤ blocks size n). is)
    (cases_lt (blocks size n) 1)

-- at the highest level each side is at most 64
pub last_level : (n : ℕ) → n ≤ 16384 → blocks 256 n ≤ 64
last_level n wide = omega arith
