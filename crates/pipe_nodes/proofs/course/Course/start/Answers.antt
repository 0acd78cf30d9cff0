use Rattle.std.proofs.Common.{ap, ◌∙◌}
use Rattle.px.specs.Cut.{Cut}
use Rattle.pipe_nodes.proofs.course.Course.start.Goals as goal

pub returns-clause-come : goal.returns-clause-come
returns-clause-come c = λ q part.
    let sides = c.sides-w.ensures.sides ∙ ap (λ (p : Cut). (p.w, p.h)) c.plane.ensures.plane in
    c.at.ensures.come q (ap (λ s. s.0) sides ∙ part.wide) (ap (λ s. s.1) sides ∙ part.high)
