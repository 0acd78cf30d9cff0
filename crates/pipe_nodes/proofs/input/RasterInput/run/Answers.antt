use Rattle.std.proofs.Common.{ap, sym, ◌∙◌}
use Rattle.std.proofs.lemmas.Result.{IfOk-weaker}
use Rattle.pipe_nodes.specs.Course.{needed_before}
use Rattle.pipe_nodes.proofs.CourseLemmas.{can-band, made-band, part-sides, shaped-band}
use Rattle.pipe_nodes.proofs.input.RasterInput.run.Goals as goal

pub run_in_turn-requires-clause-out : goal.run_in_turn-requires-clause-out
run_in_turn-requires-clause-out c = c.requires.out ∙ sym (part-sides c.args.self.now c.in_ok-band.band c.in_ok-band.ensures.cut)

pub run_in_turn-requires-clause-can : goal.run_in_turn-requires-clause-can
run_in_turn-requires-clause-can c =
    let area = c.in_ok-band.ensures.area ∙ c.region_before-needed.ensures.region ∙ ap (λ s. needed_before c.args.pieces.now s c.args.region) c.sides-w.ensures.sides in
    can-band c.args.pieces.now c.args.self.now c.in_ok-band.band c.args.region c.in_ok-band.ensures.cut area c.requires.can

pub returns-clause-shaped : goal.returns-clause-shaped
returns-clause-shaped c =
    IfOk-weaker c.run_in_turn.result _ _ (λ o shaped. shaped-band c.args.pieces.now c.args.self.now c.in_ok-band.band o c.args.region c.in_ok-band.ensures.cut shaped) c.run_in_turn.ensures.shaped

pub returns-clause-made : goal.returns-clause-made
returns-clause-made c =
    IfOk-weaker c.run_in_turn.result _ _ (λ o made. made-band c.args.pieces.now c.args.course c.args.self.now c.in_ok-band.band o c.in_ok-band.ensures.cut made) c.run_in_turn.ensures.made
