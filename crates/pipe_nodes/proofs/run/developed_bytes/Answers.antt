use Rattle.std.proofs.Common.{ap, ◌∙◌, subst}
use Rattle.std.proofs.lemmas.Result.{IfOk-weaker}
use Rattle.px.specs.Cut.{IsCutOf}
use Rattle.px.specs.Picture.{Picture}
use Rattle.pipe_nodes.specs.Actives.{actives_of}
use Rattle.pipe_nodes.specs.Whole.{whole}
use Rattle.pipe_nodes.proofs.CourseLemmas.{all-cut, all-sides}
use Rattle.pipe_nodes.proofs.run.developed_bytes.Goals as goal

pub returns-clause-wide : goal.returns-clause-wide
returns-clause-wide g c =
    let raster = c.args.raster.now in
    let pieces_are = c.deref.ensures.value ∙ c.in_ok-pieces.ensures.value in
    IfOk-weaker c.run_written.result _ _
    (λ made sides q own. ap (λ s. s.0) (sides ∙ all-sides 0 raster raster c.deref.result.now (λ p part. part) q own) ∙ ap (λ list. (whole q 0 list).w) pieces_are) c.run_written.ensures.sides

pub returns-clause-high : goal.returns-clause-high
returns-clause-high g c =
    let raster = c.args.raster.now in
    let pieces_are = c.deref.ensures.value ∙ c.in_ok-pieces.ensures.value in
    IfOk-weaker c.run_written.result _ _
    (λ made sides q own. ap (λ s. s.1) (sides ∙ all-sides 0 raster raster c.deref.result.now (λ p part. part) q own) ∙ ap (λ list. (whole q 0 list).h) pieces_are) c.run_written.ensures.sides

pub returns-clause-bytes : goal.returns-clause-bytes
returns-clause-bytes g c =
    let raster = c.args.raster.now in
    let pieces_are = c.deref.ensures.value ∙ c.in_ok-pieces.ensures.value in
    let sides = c.sides-w.ensures.sides in
    let come = λ (p : Picture) (part : IsCutOf p raster). c.at-course.ensures.come p (ap (λ s. s.0) sides ∙ part.wide) (ap (λ s. s.1) sides ∙ part.high) in
    IfOk-weaker c.run_written.result _ _
    (λ made bytes q own. bytes (whole q 0 (actives_of c.args.history.now)) (λ o is. subst (λ list. IsCutOf (whole q 0 list) o) pieces_are
    (all-cut 0 raster raster o c.deref.result.now c.at-course.result come (λ p part. part) is q own))) c.run_written.ensures.bytes
