use Rattle.std.proofs.Common.{sym, ap, ◌∙◌, Option}
use Rattle.generator.specs.NextOf.{Done, run_on}
use Rattle.generator.specs.Rounds.{Course}
use Rattle.generator.specs.Tried.{wish_to_take}
use Rattle.generator.proofs.TriedLemmas.{tried_before}
use Rattle.generator.proofs.course.Course.make_next.Goals as goal

pub returns-in-Some-clause-course : goal.returns-in-Some-clause-course
returns-in-Some-clause-course g c =
    let w = c.args.worker in
    let same = tried_before c.args.self.now (wish_to_take c.args.self.now w) (run_on w c.args.done.now) c.in-Some.took (sym c.in_ok-took.ensures.made ∙ c.in-Some.is) in
    c.in_ok-took.ensures.course ∙ ap (λ (t : Course × Option Done). t.0) (sym same)

pub returns-in-Some-clause-made : goal.returns-in-Some-clause-made
returns-in-Some-clause-made g c =
    let w = c.args.worker in
    let same = tried_before c.args.self.now (wish_to_take c.args.self.now w) (run_on w c.args.done.now) c.in-Some.took (sym c.in_ok-took.ensures.made ∙ c.in-Some.is) in
    sym c.in-Some.is ∙ c.in_ok-took.ensures.made ∙ ap (λ (t : Course × Option Done). t.1) (sym same)
