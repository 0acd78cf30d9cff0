use Rattle.std.proofs.Common.{Some, None, subst, sym, ap, ◌∙◌}
use Rattle.params.specs.declared.settings.Params.{Params}
use Rattle.edit_steps.specs.Ranges.{IsStepWithin}
use Rattle.generator.specs.Script.{set_step, exposure_of, is_odd}
use Rattle.generator.proofs.StepLemmas.{exposure_within, mixer_within, crop_within, blend_within, orientation_within}
use Rattle.generator.proofs.steps.step_of.Goals as goal

pub returns-in-0-clause-within : goal.returns-in-0-clause-within
returns-in-0-clause-within c = subst IsStepWithin (sym (c.set_step.ensures ∙ ap (λ (p : Params). set_step p None) c.exposure.ensures)) (exposure_within c.args.v)

pub returns-in-1-clause-within : goal.returns-in-1-clause-within
returns-in-1-clause-within c = subst IsStepWithin (sym (c.set_step-in-1.ensures ∙ ap (λ (p : Params). set_step p None) c.mixer.ensures)) (mixer_within c.args.v)

pub returns-in-2-clause-within : goal.returns-in-2-clause-within
returns-in-2-clause-within c = subst IsStepWithin (sym (c.set_step-in-2.ensures ∙ ap (λ (p : Params). set_step p None) c.crop.ensures)) (crop_within c.args.v)

pub returns-in-3-clause-within : goal.returns-in-3-clause-within
returns-in-3-clause-within c = subst IsStepWithin (sym (c.set_step-in-3.ensures ∙ ap (λ (p : Params). set_step p (Some c.blend.result)) c.exposure-in-3.ensures ∙ ap (λ b. set_step (exposure_of 8192) (Some b)) c.blend.ensures)) (blend_within c.args.v)

pub returns-in-5-clause-within : goal.returns-in-5-clause-within
returns-in-5-clause-within c = subst IsStepWithin (sym (c.set_step-in-5.ensures ∙ ap (λ (p : Params). set_step p None) c.orientation.ensures)) (orientation_within (is_odd c.args.v))
