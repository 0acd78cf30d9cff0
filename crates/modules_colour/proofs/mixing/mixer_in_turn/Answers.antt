use Rattle.std.proofs.Common.{ap, refl, arith}
use Rattle.std.proofs.lemmas.Result.{IfOk-weaker}
use Rattle.px.specs.Cut.{value_at}
use Rattle.px.proofs.MadeLemmas.{cut_of_made}
use Rattle.modules_colour.specs.Mixing.{mixed, mixed_picture}
use Rattle.modules_colour.proofs.MixLemmas.{matrix_of, mixed_tops}
use Rattle.modules_colour.proofs.mixing.mixer_in_turn.Goals as goal

pub paint_in_turn-requires-clause-asks : goal.paint_in_turn-requires-clause-asks
paint_in_turn-requires-clause-asks c x y inside =
    (record { left = omega arith; right = omega arith; top = omega arith; bottom = omega arith }, c.requires.rgb, matrix_of c.args.params.now c.requires.within)

pub paint_in_turn-requires-clause-gives : goal.paint_in_turn-requires-clause-gives
paint_in_turn-requires-clause-gives c x y r inside is i = rw is (mixed_tops c.args.params.now (value_at c.args.input.now x y) i)

pub returns-clause-cut : goal.returns-clause-cut
returns-clause-cut c =
    let sides = c.sides-w.ensures.sides in
    IfOk-weaker c.paint_in_turn.result _ _ (λ p painted q part.
    cut_of_made (mixed c.args.params.now) (mixed_picture c.args.params.now q) q _ _ c.args.input.now p c.args.region
    (ap (λ s. s.0) sides) (ap (λ s. s.1) sides) c.requires.rgb c.requires.covers painted part refl refl refl (λ x y. refl)) c.paint_in_turn.ensures
