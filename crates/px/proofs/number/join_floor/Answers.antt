use Rattle.std.proofs.Common.{◌≡◌, ℕ, ◌^◌, ◌-◌, ap, ◌∙◌, arith}
use Rattle.std.specs.Prelude.{ℤ, pos, ◌+ℤ◌, ◌*ℤ◌}
use Rattle.std.proofs.lemmas.Int.{ints}
use mir.Syntax.{w32}
use mir.Val.{of_z, to_z}
use Rattle.px.specs.Number.{floor_div}
use Rattle.px.proofs.NumberLemmas.{floor_joined}
use Rattle.px.proofs.number.join_floor.Goals as goal

pub returns : goal.returns
returns c =
    let part : c.shift_floor.result ≡ floor_div c.args.low 256 = c.shift_floor.ensures.value ∙ ap (λ z. floor_div z 256) (omega (arith, ints)) in
    let whole : c.shift_floor-2.result ≡ floor_div (c.args.high +ℤ c.shift_floor.result) (2 ^ (c.args.shift - 8)) = c.shift_floor-2.ensures.value ∙ ap (λ z. floor_div z (2 ^ (c.args.shift - 8))) (omega (arith, ints)) in
    let joined : c.shift_floor-2.result ≡ floor_div (c.args.high *ℤ pos 256 +ℤ c.args.low) (2 ^ c.args.shift) =
    whole ∙ (ap (λ z. floor_div (c.args.high +ℤ z) (2 ^ (c.args.shift - 8))) part ∙ floor_joined c.args.high c.args.low c.args.shift c.requires.least) in
    let fits : to_z w32 (of_z w32 c.shift_floor-2.result) ≡ c.shift_floor-2.result = omega (arith, ints) in
    fits ∙ joined
