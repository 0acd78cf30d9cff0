-- what the ranges of the settings say of each channel
use Rattle.std.proofs.Common.{ℕ, ◌<◌, ◌≤◌, slice_index, arith}
use Rattle.std.proofs.lemmas.Int.{ints}
use Rattle.params.specs.declared.settings.RawPrepare.{RawPrepare}
use Rattle.params.specs.declared.settings.Temperature.{Temperature}
use Rattle.params.specs.Each.{IsRawWithin, IsTemperatureWithin}
use Rattle.px.proofs.RowLemmas.{three}

-- each black is below white
pub black_below : (r : RawPrepare) → IsRawWithin r → (c : ℕ) → c < 3 → slice_index r.black c < r.white
black_below r within = three (λ c. slice_index r.black c < r.white)
    (omega (arith, ints, within.kept.1.1.1.1.0))
    (omega (arith, ints, within.kept.1.1.1.1.1.0))
    (omega (arith, ints, within.kept.1.1.1.1.1.1.0))

pub mul_small : (t : Temperature) → IsTemperatureWithin t → (c : ℕ) → c < 3 → slice_index t.mul c ≤ 32768
mul_small t within = three (λ c. slice_index t.mul c ≤ 32768)
    (omega (arith, ints, within.kept.0.1))
    (omega (arith, ints, within.kept.1.0.1))
    (omega (arith, ints, within.kept.1.1.0.1))
