use Rattle.std.proofs.Common.{◌≡◌, Bor, Option, Some, sym, ap, ◌∙◌}
use Rattle.px.specs.Cut.{Cut}
use Rattle.level_store.specs.Planes.{IsOfLevel}
use Rattle.stage_run.specs.StageRun.{StageRunSeen, IsInput}
use Rattle.dev_core.specs.Subject.{show_of}
use Rattle.stepped.specs.Machine.{OpenSeen, course, stage_in}
use Rattle.stepped.proofs.OpenRunLemmas.{for_some, is_input}
use Rattle.stepped.proofs.open_run.OpenRun.load.Goals as goal

pub load-requires-clause-ready : goal.load-requires-clause-ready
load-requires-clause-ready g c κs within =
    let j = c.args.self.now.job in
    let r = c.in-Some.stages in
    let at = stage_in c.self.inside.stages in
    let some : ◌≡◌ {A = Option StageRunSeen} (Some r) (Some (course c.self.inside.job at)) = sym c.in-Some.is ∙ c.in_ok-plan.ensures.ok in
    let inner : r ≡ course c.self.inside.job at = cc in
    let is : r ≡ course j at = inner ∙ ap (λ (o : OpenSeen). course o.job at) c.self.view_is in
    for_some c.args.ready (λ (p : Bor Cut). IsOfLevel j.subject.source (show_of j.subject j.name j.moment).level p.now) (λ (p : Bor Cut). IsInput r p.now)
    (λ p of. is_input j at r c.first_region-begins.result p.now is c.first_region-begins.ensures.first c.first_region-begins.ensures.inside of) c.requires.ready
