use Rattle.std.proofs.Common.{◌≡◌, ap, ◌∙◌, arith}
use Rattle.std.specs.Prelude.{pos, ◌*ℤ◌}
use Rattle.std.proofs.lemmas.Int.{ints}
use Rattle.modules_colour.proofs.mixing.weigh_pixel.Goals as goal

pub overflow_add-result-2 : goal.overflow_add-result-2
overflow_add-result-2 c = omega (arith, ints, c.weigh-red.ensures.small, c.weigh-green.ensures.small, c.weigh-blue.ensures.small)

pub returns-clause-sum : goal.returns-clause-sum
returns-clause-sum c =
    let red : c.weigh-red.result ≡ c.args.by_red *ℤ pos c.args.r = c.weigh-red.ensures.product ∙ ap (λ z. z *ℤ pos c.args.r) (omega (arith, ints)) in
    let green : c.weigh-green.result ≡ c.args.by_green *ℤ pos c.args.g = c.weigh-green.ensures.product ∙ ap (λ z. z *ℤ pos c.args.g) (omega (arith, ints)) in
    let blue : c.weigh-blue.result ≡ c.args.by_blue *ℤ pos c.args.b = c.weigh-blue.ensures.product ∙ ap (λ z. z *ℤ pos c.args.b) (omega (arith, ints)) in
    omega (arith, ints, red, green, blue, c.weigh-red.ensures.small, c.weigh-green.ensures.small, c.weigh-blue.ensures.small)

pub returns-clause-small : goal.returns-clause-small
returns-clause-small c = omega (arith, ints, c.weigh-red.ensures.small, c.weigh-green.ensures.small, c.weigh-blue.ensures.small)
