-- numbers of at most nine digits
use Rattle.std.proofs.Common.{ℕ, zero, suc, ◌^◌, ◌≤◌, arith}

pub few_digits : (i : ℕ) → i ≤ 8 → 10 ^ i ≤ 100000000
few_digits zero h = omega arith
few_digits (suc zero) h = omega arith
few_digits (suc (suc zero)) h = omega arith
few_digits (suc (suc (suc zero))) h = omega arith
few_digits (suc (suc (suc (suc zero)))) h = omega arith
few_digits (suc (suc (suc (suc (suc zero))))) h = omega arith
few_digits (suc (suc (suc (suc (suc (suc zero)))))) h = omega arith
few_digits (suc (suc (suc (suc (suc (suc (suc zero))))))) h = omega arith
few_digits (suc (suc (suc (suc (suc (suc (suc (suc zero)))))))) h = omega arith
few_digits (suc (suc (suc (suc (suc (suc (suc (suc (suc i))))))))) h = absurd (omega (arith, h))
