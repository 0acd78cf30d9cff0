use Rattle.std.proofs.Common.{◌≡◌, ◌≢◌, ◌-◌, ◌^◌, ◌<◌, ◌≤◌, length, slice_index, get_or-set_other, get_or-set_same, below_more, ap, ◌∙◌, arith}
use Rattle.std.specs.Prelude.{pos, ◌+ℤ◌, ◌-ℤ◌, ◌*ℤ◌}
use Rattle.std.proofs.lemmas.Int.{ints}
use mir.Syntax.{w32}
use mir.Val.{of_z, to_z}
use Rattle.params.specs.Form.{natural_of}
use Rattle.px.specs.Number.{clamp, floor_div}
use Rattle.modules_colour.specs.Exposing.{exposed}
use Rattle.modules_colour.proofs.ExposeLemmas.{exposed_is}
use Rattle.modules_colour.proofs.exposing.expose_row.Goals as goal

pub loop-i-preserved : goal.loop-i-preserved
loop-i-preserved c =
    let e = c.args.params.now in
    let v = slice_index c.args.from.now c.loop-i.i in
    let scale = c.scale-scale.result in
    let kept = c.requires.within.kept in
    let black : to_z w32 (of_z w32 e.black) ≡ e.black = omega (arith, ints, kept.0.0, kept.0.1) in
    let stops : to_z w32 (of_z w32 e.stops) ≡ e.stops = omega (arith, ints, kept.1.1.0.0, kept.1.1.0.1) in
    let scale_is : scale ≡ 16 - natural_of (e.stops +ℤ pos 4) = c.scale-scale.ensures.value ∙ ap (λ z. 16 - natural_of (z +ℤ pos 4)) stops in
    let few : natural_of (e.stops +ℤ pos 4) ≤ 16 = omega (arith, scale_is, c.scale-scale.ensures.least) in
    let here : c.expose.result ≡ exposed e v =
    c.expose.ensures ∙ (ap (λ z. clamp (floor_div ((pos v -ℤ z) *ℤ pos e.gain) (2 ^ scale))) black ∙ exposed_is e scale v few scale_is) in
    below_more _ _
    (λ k h. let ne : k ≢ c.loop-i.i = omega arith in rw get_or-set_other (c.loop-i.invariant k h))
    (let lt : c.loop-i.i < length c.loop-i.row = omega arith in rw get_or-set_same here)
