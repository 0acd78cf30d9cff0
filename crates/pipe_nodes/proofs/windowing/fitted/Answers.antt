use Rattle.std.proofs.Common.{ap, ◌∙◌}
use Rattle.std.proofs.lemmas.Result.{IfOk-weaker}
use Rattle.modules_raw.specs.Levels.{blocks}
use Rattle.pipe_nodes.specs.Windows.{fit_factor}
use Rattle.pipe_nodes.proofs.WindowLemmas.{fit-of-part}
use Rattle.pipe_nodes.proofs.windowing.fitted.Goals as goal

pub returns-clause-cut : goal.returns-clause-cut
returns-clause-cut g c =
    let sides = c.sides-w.ensures.sides in
    let factor = c.least_factor-factor.result in
    IfOk-weaker c.scaled_part.result _ _ (λ o cut q part.
    fit-of-part c.args.size c.args.plane.now q factor _ _ o part (c.least_factor-factor.ensures.factor ∙ ap (λ s. fit_factor s.0 s.1 c.args.size) sides)
    (c.scaled_side-columns.ensures.side ∙ ap (λ s. blocks factor s.0) sides) (c.scaled_side-rows.ensures.side ∙ ap (λ s. blocks factor s.1) sides) (cut q part)) c.scaled_part.ensures.cut
