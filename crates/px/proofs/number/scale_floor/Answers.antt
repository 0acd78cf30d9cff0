use Rattle.std.proofs.Common.{◌≡◌, ◌/◌, ◌%◌, ◌^◌, ap, ◌∙◌, arith}
use Rattle.std.specs.Prelude.{ℤ, pos, ◌+ℤ◌, ◌*ℤ◌}
use Rattle.std.proofs.lemmas.Int.{ints}
use mir.Syntax.{w32}
use mir.Val.{of_z, to_z}
use Rattle.px.specs.Number.{floor_div}
use Rattle.px.proofs.NumberLemmas.{by_parts}
use Rattle.px.proofs.number.scale_floor.Goals as goal

pub returns : goal.returns
returns c =
    let a_is : to_z w32 (of_z w32 c.args.a) ≡ c.args.a = omega (arith, ints) in
    let high : c.product.result ≡ c.args.a *ℤ pos (c.args.b / 256) = c.product.ensures.product ∙ ap (λ z. z *ℤ pos (c.args.b / 256)) a_is in
    let low : c.product-2.result ≡ c.args.a *ℤ pos (c.args.b % 256) = c.product-2.ensures.product ∙ ap (λ z. z *ℤ pos (c.args.b % 256)) a_is in
    let sum : c.join_floor.result ≡ floor_div (c.product.result *ℤ pos 256 +ℤ c.product-2.result) (2 ^ c.args.shift) = c.join_floor.ensures ∙ ap (λ z. floor_div z (2 ^ c.args.shift)) (omega (arith, ints)) in
    let whole : c.product.result *ℤ pos 256 +ℤ c.product-2.result ≡ c.args.a *ℤ pos c.args.b = rw (high, low) (by_parts c.args.a c.args.b) in
    let fits : to_z w32 (of_z w32 c.join_floor.result) ≡ c.join_floor.result = omega (arith, ints) in
    fits ∙ (sum ∙ ap (λ z. floor_div z (2 ^ c.args.shift)) whole)
