use Rattle.std.proofs.lemmas.Result.{IfOk-weaker}
use Rattle.modules_geometry.proofs.MovedLemmas.{cut-of-moved}
use Rattle.modules_geometry.proofs.moving.moved_in_turn.Goals as goal

pub returns-clause-cut : goal.returns-clause-cut
returns-clause-cut c =
    IfOk-weaker c.paint_in_turn.result _ _ (λ p painted q part.
    cut-of-moved c.args.params.now c.args.input.now c.args.region c.places-columns.result.2 _ _ q p c.requires.within c.requires.one c.places-columns.ensures.valid c.requires.can
    c.places-columns.ensures.sides c.places-columns.ensures.trace painted part) c.paint_in_turn.ensures
