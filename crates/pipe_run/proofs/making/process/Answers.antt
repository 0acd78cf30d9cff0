use Rattle.std.proofs.Common.{◌∙◌, ap}
use Rattle.px.specs.Cut.{picture_of}
use Rattle.pipe_nodes.specs.Staged.{StagedSeen}
use Rattle.pipe_run.proofs.StageLemmas.{made-kind, made-sides}
use Rattle.pipe_run.proofs.making.process.Goals as goal

pub returns-clause-kind : goal.returns-clause-kind
returns-clause-kind g c =
    let from = c.args.from.now in
    ap (λ (s : StagedSeen). s.plane.kind) c.in_ok-staged.ensures
    ∙ made-kind (picture_of from.source) from.prefix.level from.prefix.actives c.args.piece.now from.plane c.in_ok-plane.plane c.prefix.ensures.right c.in_ok-plane.ensures.cut

pub returns-clause-sides : goal.returns-clause-sides
returns-clause-sides g c =
    let from = c.args.from.now in
    ap (λ (s : StagedSeen). (s.plane.w, s.plane.h)) c.in_ok-staged.ensures
    ∙ made-sides (picture_of from.source) from.prefix.level from.prefix.actives c.args.piece.now from.plane c.in_ok-plane.plane c.prefix.ensures.right c.in_ok-plane.ensures.cut
