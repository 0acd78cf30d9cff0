use Rattle.std.proofs.Common.{ℕ, ◌∙◌, ap}
use Rattle.modules_raw.specs.Levels.{level_side}
use Rattle.pipe_run.proofs.PlanLemmas.{level-fits}
use Rattle.pipe_run.proofs.planning.plan.Goals as goal

pub plan_back-requires-clause-sides : goal.plan_back-requires-clause-sides
plan_back-requires-clause-sides c =
    let level = c.args.show.now.level in
    level-fits c.plane.result.now level c.level_sides-w.result.0 c.level_sides-w.result.1 c.sides-source_w.ensures.valid c.requires.level
    (c.level_sides-w.ensures ∙ ap (λ (s : ℕ × ℕ). (level_side s.0 level, level_side s.1 level)) c.sides-source_w.ensures.sides)
