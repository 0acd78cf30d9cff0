use Rattle.std.proofs.Common.{[], ◌∷◌, subst}
use Rattle.std.proofs.lemmas.Result.{IfOk-weaker}
use Rattle.pipe_nodes.specs.Course.{IsMadeBy}
use Rattle.pipe_nodes.proofs.CourseLemmas.{stage-made}
use Rattle.pipe_nodes.proofs.piece.Piece.render.Goals as goal

pub returns-clause-cut : goal.returns-clause-cut
returns-clause-cut g c =
    let s = c.args.from.now in
    let course = c.stage_course-course.result in
    IfOk-weaker c.run_bands.result _ _ (λ o made.
    stage-made s c.args.self.now course o c.plane.ensures.right c.stage_course-course.ensures.come
    (subst (λ p. IsMadeBy (c.args.self.now ∷ []) course p o) c.plane.ensures.plane (subst (λ list. IsMadeBy list course c.plane.result.now o) c.from_ref.ensures.value made))) c.run_bands.ensures.made
