-- products of pixels and rows of a matrix
use Rattle.std.proofs.Common.{◌≡◌, ℕ, zero, suc, ◌/◌, ◌%◌, ◌≤◌, [], ◌∷◌, slice_index, sym, subst, arith}
use Rattle.std.specs.Prelude.{ℤ, pos, negsuc, ◌+ℤ◌, ◌*ℤ◌, ◌≤ℤ◌, neg_ℤ, unsigned_abs}
use Rattle.std.proofs.lemmas.Int.{ints}
use mir.Syntax.{w32}
use mir.Val.{of_z, to_z}
use Rattle.std.proofs.lemmas.List.{get_or_past}
use Rattle.params.specs.declared.settings.ChannelMixer.{ChannelMixer}
use Rattle.params.specs.Each.{IsMixerWithin}
use Rattle.px.specs.Number.{clamp}
use Rattle.px.specs.Pixelwise.{made_of}
use Rattle.px.proofs.NumberLemmas.{by_parts}
use Rattle.modules_colour.specs.Mixing.{IsMatrix, factor, mixed}

-- a sum of three products is that with the upper parts and that with the lower ones
pub sum_by_parts : (a b c : ℤ) (r g d : ℕ)
    → (a *ℤ pos (r / 256) +ℤ b *ℤ pos (g / 256) +ℤ c *ℤ pos (d / 256)) *ℤ pos 256 +ℤ (a *ℤ pos (r % 256) +ℤ b *ℤ pos (g % 256) +ℤ c *ℤ pos (d % 256))
    ≡ a *ℤ pos r +ℤ b *ℤ pos g +ℤ c *ℤ pos d
sum_by_parts a b c r g d = omega (arith, ints, by_parts a r, by_parts b g, by_parts c d)

pub clamp_top : (z : ℤ) → clamp z ≤ 1048575
clamp_top (pos a) = omega arith
clamp_top (negsuc a) = omega arith

pub top_of : (n : ℕ) (z : ℤ) → n ≡ clamp z → n ≤ 1048575
top_of n z e = rw e (clamp_top z)

pub three_tops : (a b c : ℕ) → a ≤ 1048575 → b ≤ 1048575 → c ≤ 1048575 → (i : ℕ) → slice_index (a ∷ b ∷ c ∷ []) i ≤ 1048575
three_tops a b c ha hb hc zero = ha
three_tops a b c ha hb hc (suc zero) = hb
three_tops a b c ha hb hc (suc (suc zero)) = hc
three_tops a b c ha hb hc (suc (suc (suc i))) = omega arith

pub mixed_tops : (m : ChannelMixer) (v : ℕ → ℕ) (i : ℕ) → slice_index (made_of (mixed m) v) i ≤ 1048575
mixed_tops m v i = three_tops _ _ _ (clamp_top _) (clamp_top _) (clamp_top _) i

small_of : (z : ℤ) → (neg_ℤ (pos 32768) ≤ℤ z) × (z ≤ℤ pos 32768) → unsigned_abs z ≤ 32768
small_of z h = omega (arith, ints, h.0, h.1)

entry_small : (m : ChannelMixer) → IsMixerWithin m → (i : ℕ) → unsigned_abs (factor m i) ≤ 32768
entry_small m within zero = small_of _ within.kept.0
entry_small m within (suc zero) = small_of _ within.kept.1.0
entry_small m within (suc (suc zero)) = small_of _ within.kept.1.1.0
entry_small m within (suc (suc (suc zero))) = small_of _ within.kept.1.1.1.0
entry_small m within (suc (suc (suc (suc zero)))) = small_of _ within.kept.1.1.1.1.0
entry_small m within (suc (suc (suc (suc (suc zero))))) = small_of _ within.kept.1.1.1.1.1.0
entry_small m within (suc (suc (suc (suc (suc (suc zero)))))) = small_of _ within.kept.1.1.1.1.1.1.0
entry_small m within (suc (suc (suc (suc (suc (suc (suc zero))))))) = small_of _ within.kept.1.1.1.1.1.1.1.0
entry_small m within (suc (suc (suc (suc (suc (suc (suc (suc zero)))))))) = small_of _ within.kept.1.1.1.1.1.1.1.1.0
entry_small m within (suc (suc (suc (suc (suc (suc (suc (suc (suc i))))))))) =
    let e : factor m (suc (suc (suc (suc (suc (suc (suc (suc (suc i))))))))) ≡ pos 0 = get_or_past m.rows (suc (suc (suc (suc (suc (suc (suc (suc (suc i))))))))) (pos 0) (omega (arith, within.sized)) in subst (λ (z : ℤ). unsigned_abs z ≤ 32768) (sym e) (omega arith)

-- an entry is what a number of 32 bits holds of it
pub held : (z : ℤ) → unsigned_abs z ≤ 32768 → to_z w32 (of_z w32 z) ≡ z
held z small = omega (arith, ints)

-- settings within their ranges have a matrix within its ranges
pub matrix_of : (m : ChannelMixer) → IsMixerWithin m → IsMatrix m
matrix_of m within = record { size = within.sized; small = entry_small m within }
