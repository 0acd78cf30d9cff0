use Rattle.std.proofs.Common.{◌≡◌, ◌∙◌, ◌+◌, length, ap, subst, arith}
use Rattle.px.specs.Cut.{Cut}
use Rattle.pipe_nodes.specs.declared.show.Show.{Show}
use Rattle.pipe_run.specs.Planned.{sides_at, planned, AreInside}
use Rattle.dev_core.specs.Subject.{SubjectSeen}
use Rattle.pipe_worker.specs.Job.{show_for}
use Rattle.pipe_worker.proofs.Working.{works}
use Rattle.pipe_worker.proofs.begin.plan_for.Goals as goal

pub returns : goal.returns
returns c =
    let j = c.args.job.now in
    let regions = c.in_ok-regions.regions.items in
    let source_is : c.deref-2.result.now ≡ j.subject.source = c.deref-2.ensures ∙ c.source.ensures ∙ ap (λ (s : SubjectSeen). s.source) (c.deref.ensures ∙ c.subject.ensures) in
    let show_is : c.show.result.now ≡ show_for j = c.show.ensures.show in
    let count : length regions ≡ length c.args.pieces.now + 1 = omega (arith, c.in_ok-regions.regions.ok.0, c.in_ok-regions.ensures.count) in
    works j c.args.pieces.now regions c.requires.pieces (c.in_ok-regions.ensures.regions ∙ (λ i. planned c.args.pieces.now (sides_at (source_is i) (show_is i).level) (show_is i).window))
    (subst (λ (z : Cut × Show). AreInside c.args.pieces.now (sides_at z.0 z.1.level) regions) (λ i. (source_is i, show_is i)) c.in_ok-regions.ensures.inside) count c.requires.run
