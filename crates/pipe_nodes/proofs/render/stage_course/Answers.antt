use Rattle.std.proofs.Common.{◌≡◌, ◌≤◌, length, subst, arith, Some}
use Rattle.std.specs.Prelude.{slice_get}
use Rattle.px.specs.Cut.{picture_of}
use Rattle.pipe_nodes.proofs.CourseLemmas.{come-next, come-all, stage-out}
use Rattle.pipe_nodes.proofs.render.stage_course.Goals as goal

pub loop-i-preserved : goal.loop-i-preserved
loop-i-preserved c =
    let s = c.args.from.now in
    come-next (picture_of s.source) s.prefix.level s.prefix.actives c.loop-i.i c.at.result.now c.loop-i.course c.push.new.self
    (subst (λ p. slice_get p.actives c.loop-i.i ≡ Some c.at.result.now) c.prefix-prefix.ensures.prefix c.at.ensures) c.loop-i.invariant c.push.ensures.come

pub returns-clause-out : goal.returns-clause-out
returns-clause-out c =
    let s = c.args.from.now in
    stage-out s c.loop-i.course c.prefix-prefix.ensures.right (come-all (picture_of s.source) s.prefix.level s.prefix.actives c.loop-i.i c.loop-i.course
    (subst (λ p. length p.actives ≤ c.loop-i.i) c.prefix-prefix.ensures.prefix (omega (arith, c.loop-i-test.false, c.len-i-end.ensures.value))) c.loop-i.invariant)
