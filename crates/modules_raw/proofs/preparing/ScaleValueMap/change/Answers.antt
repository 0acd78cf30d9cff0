use Rattle.std.proofs.Common.{◌≡◌, ◌-◌, ◌*◌, ◌/◌, ◌≤◌, ap, ◌∙◌, arith}
use Rattle.std.specs.Prelude.{min}
use Rattle.modules_raw.proofs.ScaleLemmas.{scaled_is, fits_product}
use Rattle.modules_raw.proofs.preparing.ScaleValueMap.change.Goals as goal

pub overflow_mul-grown : goal.overflow_mul-grown
overflow_mul-grown c =
    let s = c.args.self.now in
    let far : c.from-far.result ≡ min (c.args.value - s.black) (17 * s.range) = c.from-far.ensures ∙ c.above.ensures in
    omega (arith, fits_product s.range s.factor (c.args.value - s.black) c.requires.allows, ap (λ n. n * s.factor) far)

pub returns-clause-value : goal.returns-clause-value
returns-clause-value c =
    let s = c.args.self.now in
    let far : c.from-far.result ≡ min (c.args.value - s.black) (17 * s.range) = c.from-far.ensures ∙ c.above.ensures in
    let small : c.args.value - s.black ≤ 1048575 = omega arith in
    c.min.ensures ∙ (ap (λ n. min (c.from-far.result * s.factor / 68719476736) n) c.from.ensures
    ∙ (ap (λ n. min (n * s.factor / 68719476736) 1048575) far ∙ scaled_is s.range s.factor (c.args.value - s.black) c.requires.allows small))
