use Rattle.std.proofs.Common.{subst}
use Rattle.std.proofs.lemmas.Result.{IfOk-weaker}
use Rattle.px.specs.Area.{IsArea}
use Rattle.pipe_nodes.specs.Course.{AreSound}
use Rattle.pipe_nodes.specs.Whole.{run_from}
use Rattle.pipe_nodes.proofs.CourseLemmas.{can-part}
use Rattle.pipe_nodes.proofs.bands.run_bands.Goals as goal

pub paint_bands-requires-clause-asks : goal.paint_bands-requires-clause-asks
paint_bands-requires-clause-asks g c κs within = λ r covers.
    let input = g.I.Input.seen c.args.input.now in
    (c.requires.out, can-part c.args.pieces.now input c.args.region r (subst (AreSound c.args.pieces.now) c.shape-own.ensures.sides c.shape_made-kind.ensures.sound) (subst IsArea c.region.view_is c.region.invariant) c.requires.can covers)

pub returns-clause-made : goal.returns-clause-made
returns-clause-made g c =
    IfOk-weaker c.paint_bands.result _ _ (λ p made q i level before come part. made.cut (run_from q level before c.args.pieces.now i) (λ r b covers given. given.1.1 q i level before come part)) c.paint_bands.ensures
