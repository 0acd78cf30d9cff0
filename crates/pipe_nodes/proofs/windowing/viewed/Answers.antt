use Rattle.std.proofs.Common.{ap, ◌∙◌}
use Rattle.std.proofs.lemmas.Result.{IfOk-weaker}
use Rattle.pipe_nodes.specs.Windows.{shown_area}
use Rattle.pipe_nodes.proofs.WindowLemmas.{view-of-part}
use Rattle.pipe_nodes.proofs.windowing.viewed.Goals as goal

pub returns-clause-cut : goal.returns-clause-cut
returns-clause-cut g c =
    IfOk-weaker c.scaled_part.result _ _ (λ o cut q part.
    view-of-part c.args.view.now c.args.plane.now q _ o part (c.view_part-x.ensures.part ∙ ap (λ s. shown_area c.args.view.now s.0 s.1) c.sides-w.ensures.sides) (cut q part)) c.scaled_part.ensures.cut
