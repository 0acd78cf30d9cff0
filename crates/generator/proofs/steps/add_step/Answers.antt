use Rattle.std.proofs.Common.{sym, subst}
use Rattle.std.specs.List.{All}
use Rattle.std.proofs.lemmas.List.Elements.{All-push}
use Rattle.edit_steps.specs.Ranges.{IsStepWithin}
use Rattle.generator.proofs.steps.add_step.Goals as goal

pub returns-clause-within : goal.returns-clause-within
returns-clause-within c = subst (All IsStepWithin) (sym c.in_ok-push.ensures.items) (All-push IsStepWithin c.args.steps.now.items c.step_of.result c.requires c.step_of.ensures.within)
