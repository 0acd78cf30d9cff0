-- Settings of old versions mean the same as those that they become.
use Rattle.std.proofs.Common.{◌≡◌, ℕ, zero, suc, ◌+◌, ◌*◌, ◌/◌, ℤ, pos, negsuc, List, refl, sym, ap, ◌∙◌, arith}
use Rattle.std.specs.Prelude.{neg_ℤ, ◌-ℤ◌, ◌*ℤ◌}
use Rattle.params.specs.Ranges.{migrated}
use Rattle.params.specs.declared.old.OldParams.{OldParams}
use Rattle.params.specs.declared.old.OldParams.TheVariants as old
use Rattle.px.specs.Number.{floor_div, clamp}
use Rattle.modules_colour.specs.Curving.{curved, nodes_of}
use Rattle.modules_colour.specs.Exposing.{changed, exposed}
use Rattle.modules_colour.specs.Old.{exposed_1, MeansTheSame}

-- sixteen times a number below 0 over 65,536
below_zero : (m : ℕ) → floor_div (neg_ℤ (pos m)) 4096 ≡ floor_div (neg_ℤ (pos (m * 16))) 65536
below_zero zero = refl
below_zero (suc m) =
    let more : suc m * 16 ≡ suc (m * 16 + 15) = omega arith in
    let same : m / 4096 ≡ (m * 16 + 15) / 65536 = omega arith in
    ap negsuc same ∙ sym (ap (λ k. floor_div (neg_ℤ (pos k)) 65536) more)

-- a product in 1/4096 is sixteen times the product in 1/65,536
in_65536ths : (z : ℤ) (gain : ℕ) → floor_div (z *ℤ pos gain) 4096 ≡ floor_div (z *ℤ pos (gain * 16)) 65536
in_65536ths (pos n) gain = let same : n * gain / 4096 ≡ n * (gain * 16) / 65536 = omega arith in ap pos same
in_65536ths (negsuc n) gain =
    let product : suc n * gain * 16 ≡ suc n * (gain * 16) = omega arith in
    below_zero (suc n * gain) ∙ ap (λ k. floor_div (neg_ℤ (pos k)) 65536) product

no_stops : (black : ℤ) (gain v : ℕ) → exposed_1 black gain v ≡ exposed (record { black = black; gain = gain; stops = pos 0 }) v
no_stops black gain v = ap clamp (in_65536ths (pos v -ℤ black) gain)

-- where each channel has the same curve, a channel has that one
one_for_all : (nodes : List (ℕ × ℕ)) (c : ℕ) → nodes ≡ nodes_of (record { red = nodes; green = nodes; blue = nodes }) c
one_for_all nodes zero = refl
one_for_all nodes (suc zero) = refl
one_for_all nodes (suc (suc c)) = refl

-- migrated settings mean what the old ones meant
pub migrated_means : (p : OldParams) → MeansTheSame p (migrated p)
migrated_means (old.Exposure1 black gain) q level = λ i. changed (λ v. no_stops black gain v i) q
migrated_means (old.ToneCurve1 nodes) q level = λ i. record { kind = q.kind; w = q.w; h = q.h; at = λ x y c. curved (one_for_all nodes c i) (q.at x y c) }
