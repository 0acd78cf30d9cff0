-- quotients rounded up
use Rattle.std.proofs.Common.{◌≡◌, ℕ, zero, suc, ◌+◌, ◌-◌, ◌*◌, ◌/◌, ◌%◌, ◌^◌, ◌<◌, ◌≤◌, min, refl, sym, ap, ◌∙◌, ⊎_elim, arith, lit<}
use Rattle.std.proofs.lemmas.Grind.{div_ceil_times}
use Rattle.std.proofs.lemmas.Nat.{div-mul-add}
use Rattle.std.proofs.lemmas.Bool.{cases_lt}
use Rattle.std.proofs.Math.Nat.{mul-le-mul_left}
use Rattle.local_modules.specs.Radius.{ceil_div}

-- a quotient, and one more where something is left
pub ceil_is : (a n : ℕ) → 0 < n → a / n + min 1 (a % n) ≡ ceil_div a n
ceil_is a n some =
    let whole : a ≡ a / n * n + a % n = omega arith in
    let less : a % n < n = omega arith in
    ⊎_elim
    (λ (none : a % n < 1).
    let sum : a + (n - 1) ≡ a / n * n + (n - 1) = omega arith in
    let up : a / n + min 1 (a % n) ≡ a / n = omega arith in
    up ∙ (sym (div-mul-add (a / n) n (n - 1) (omega arith)) ∙ ap (λ m. m / n) (sym sum)))
    (λ (more : 1 ≤ a % n).
    let sum : a + (n - 1) ≡ (a / n + 1) * n + (a % n - 1) = omega arith in
    let up : a / n + min 1 (a % n) ≡ a / n + 1 = omega arith in
    up ∙ (sym (div-mul-add (a / n + 1) n (a % n - 1) (omega arith)) ∙ ap (λ m. m / n) (sym sum)))
    (cases_lt (a % n) 1)

-- it is the least that reaches as far
pub least_is : (a n c m : ℕ) → 0 < n → c ≡ a / n + min 1 (a % n) → a ≤ m * n → c ≤ m
least_is a n c m some is reaches = ⊎_elim
    (λ (above : m < c).
    let up : m + 1 ≤ c = omega arith in
    let times = (div_ceil_times a n some).1 in
    let back : (a / n + min 1 (a % n)) * n ≡ c * n = ap (λ k. k * n) (sym is) in
    absurd (omega (arith, mul-le-mul_left n up, times, back)))
    (λ (fine : c ≤ m). fine)
    (cases_lt m c)

pub reaches_is : (a n c : ℕ) → 0 < n → c ≡ a / n + min 1 (a % n) → a ≤ c * n
reaches_is a n c some is = let times = (div_ceil_times a n some).0 in rw is times

pub some_is : (a n c : ℕ) → 0 < n → 1 ≤ a → c ≡ a / n + min 1 (a % n) → 1 ≤ c
some_is a n c some first is = ⊎_elim
    (λ (none : c < 1). let zero : c ≡ 0 = omega arith in let far = rw zero at (reaches_is a n c some is) in absurd (omega arith))
    (λ (fine : 1 ≤ c). fine)
    (cases_lt c 1)

pub most_is : (a n c : ℕ) → 0 < n → c ≡ a / n + min 1 (a % n) → c ≤ a
most_is a n c some is = least_is a n c a some is (let up : 1 ≤ n = omega arith in omega (arith, mul-le-mul_left a up))

-- what the code's shift gives
pub shifted : (level : ℕ) → level ≤ 8 → (1 * 2 ^ level) % 4294967296 ≡ 2 ^ level
shifted zero h = refl
shifted (suc zero) h = refl
shifted (suc (suc zero)) h = refl
shifted (suc (suc (suc zero))) h = refl
shifted (suc (suc (suc (suc zero)))) h = refl
shifted (suc (suc (suc (suc (suc zero))))) h = refl
shifted (suc (suc (suc (suc (suc (suc zero)))))) h = refl
shifted (suc (suc (suc (suc (suc (suc (suc zero))))))) h = refl
shifted (suc (suc (suc (suc (suc (suc (suc (suc zero)))))))) h = refl
shifted (suc (suc (suc (suc (suc (suc (suc (suc (suc n))))))))) h = absurd (omega arith)

pub two_some : (level : ℕ) → level ≤ 8 → 0 < 2 ^ level
two_some zero h = lit< tt
two_some (suc zero) h = lit< tt
two_some (suc (suc zero)) h = lit< tt
two_some (suc (suc (suc zero))) h = lit< tt
two_some (suc (suc (suc (suc zero)))) h = lit< tt
two_some (suc (suc (suc (suc (suc zero))))) h = lit< tt
two_some (suc (suc (suc (suc (suc (suc zero)))))) h = lit< tt
two_some (suc (suc (suc (suc (suc (suc (suc zero))))))) h = lit< tt
two_some (suc (suc (suc (suc (suc (suc (suc (suc zero)))))))) h = lit< tt
two_some (suc (suc (suc (suc (suc (suc (suc (suc (suc n))))))))) h = absurd (omega arith)
