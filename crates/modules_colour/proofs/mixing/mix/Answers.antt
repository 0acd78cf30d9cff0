use Rattle.std.proofs.Common.{◌≡◌, ◌/◌, ◌%◌, ap, ◌∙◌, arith}
use Rattle.std.specs.Prelude.{pos, ◌+ℤ◌, ◌*ℤ◌}
use Rattle.std.proofs.lemmas.Int.{ints}
use mir.Syntax.{w32}
use mir.Val.{of_z, to_z}
use Rattle.px.specs.Number.{clamp, floor_div}
use Rattle.modules_colour.proofs.MixLemmas.{sum_by_parts}
use Rattle.modules_colour.proofs.mixing.mix.Goals as goal

pub returns : goal.returns
returns c =
    let red : to_z w32 (of_z w32 c.args.by_red) ≡ c.args.by_red = omega (arith, ints) in
    let green : to_z w32 (of_z w32 c.args.by_green) ≡ c.args.by_green = omega (arith, ints) in
    let blue : to_z w32 (of_z w32 c.args.by_blue) ≡ c.args.by_blue = omega (arith, ints) in
    let high : c.weigh_pixel-high.result ≡ c.args.by_red *ℤ pos (c.args.r / 256) +ℤ c.args.by_green *ℤ pos (c.args.g / 256) +ℤ c.args.by_blue *ℤ pos (c.args.b / 256) =
    c.weigh_pixel-high.ensures.sum ∙ (λ i. red i *ℤ pos (c.args.r / 256) +ℤ green i *ℤ pos (c.args.g / 256) +ℤ blue i *ℤ pos (c.args.b / 256)) in
    let low : c.weigh_pixel-low.result ≡ c.args.by_red *ℤ pos (c.args.r % 256) +ℤ c.args.by_green *ℤ pos (c.args.g % 256) +ℤ c.args.by_blue *ℤ pos (c.args.b % 256) =
    c.weigh_pixel-low.ensures.sum ∙ (λ i. red i *ℤ pos (c.args.r % 256) +ℤ green i *ℤ pos (c.args.g % 256) +ℤ blue i *ℤ pos (c.args.b % 256)) in
    let whole : c.weigh_pixel-high.result *ℤ pos 256 +ℤ c.weigh_pixel-low.result ≡ c.args.by_red *ℤ pos c.args.r +ℤ c.args.by_green *ℤ pos c.args.g +ℤ c.args.by_blue *ℤ pos c.args.b =
    (λ i. high i *ℤ pos 256 +ℤ low i) ∙ sum_by_parts c.args.by_red c.args.by_green c.args.by_blue c.args.r c.args.g c.args.b in
    let scaled : c.join_floor.result ≡ floor_div (c.weigh_pixel-high.result *ℤ pos 256 +ℤ c.weigh_pixel-low.result) 4096 = c.join_floor.ensures ∙ ap (λ z. floor_div z 4096) (omega (arith, ints)) in
    let fits : to_z w32 (of_z w32 c.join_floor.result) ≡ c.join_floor.result = omega (arith, ints) in
    c.clamp_small.ensures ∙ ap clamp (fits ∙ (scaled ∙ ap (λ z. floor_div z 4096) whole))
