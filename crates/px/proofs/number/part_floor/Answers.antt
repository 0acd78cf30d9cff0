use Rattle.std.proofs.Common.{◌≡◌, ap, ◌∙◌, arith}
use Rattle.std.specs.Prelude.{ℤ, pos, ◌+ℤ◌, ◌*ℤ◌}
use Rattle.std.proofs.lemmas.Int.{ints}
use mir.Syntax.{w32}
use mir.Val.{of_z, to_z}
use Rattle.px.specs.Number.{floor_div}
use Rattle.px.proofs.NumberLemmas.{part_joined}
use Rattle.px.proofs.number.part_floor.Goals as goal

pub returns-clause-value : goal.returns-clause-value
returns-clause-value c =
    let part = c.args.part in
    let upper = c.upper_part-upper.result in
    let lower = c.lower_part.result in
    let held : to_z w32 (of_z w32 c.args.v) ≡ c.args.v = omega (arith, ints) in
    let upper_held : to_z w32 (of_z w32 upper) ≡ upper = omega (arith, ints) in
    let lower_held : to_z w32 (of_z w32 lower) ≡ lower = omega (arith, ints) in
    let apart : c.args.v ≡ upper *ℤ pos 4096 +ℤ lower = omega (arith, ints, c.lower_part.ensures.value, held, upper_held) in
    let high : c.times_upper-high.result ≡ pos part *ℤ upper = c.times_upper-high.ensures.product ∙ ap (λ z. pos part *ℤ z) upper_held in
    let low : c.times_lower-low.result ≡ pos part *ℤ lower = c.times_lower-low.ensures.product ∙ ap (λ z. pos part *ℤ z) lower_held in
    let under : c.shift_floor.result ≡ floor_div (pos part *ℤ lower) 4096 = c.shift_floor.ensures.value ∙ ap (λ z. floor_div z 4096) (omega (arith, ints, low)) in
    let sum : c.shift_floor-2.result ≡ floor_div (pos part *ℤ upper +ℤ floor_div (pos part *ℤ lower) 4096) 16 = c.shift_floor-2.ensures.value ∙ ap (λ z. floor_div z 16) (omega (arith, ints, high, under)) in
    let fits : to_z w32 (of_z w32 c.shift_floor-2.result) ≡ c.shift_floor-2.result = omega (arith, ints) in
    fits ∙ (sum ∙ part_joined part c.args.v upper lower apart)
