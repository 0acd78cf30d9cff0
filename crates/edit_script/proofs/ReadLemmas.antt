-- Reading the whole.
use Rattle.std.proofs.Common.{◌≡◌, ℕ, List, take, Some, Ok, ap}
use Rattle.serde_json.specs.Data.{Data}
use Rattle.json_form.proofs.FrontLemmas.{text_of_front}
use Rattle.edit_steps.specs.declared.settings.Settings.{Settings}
use Rattle.edit_steps.specs.declared.step.Step.{Step}
use Rattle.edit_steps.specs.Ranges.{IsSettings, IsStepWithin}
use Rattle.edit_script.specs.Binds.{◌>>=◌}
use Rattle.edit_script.specs.Script.{or_text, script_in, script_of}
use Rattle.edit_script.specs.Settings.{settings_in}
use Rattle.edit_script.specs.Step.{step_form}
use Rattle.edit_script.proofs.RangeLemmas.{at_some, settings_within}
use Rattle.edit_script.proofs.StepLemmas.{IsWithinOnOk, step_within}

-- settings that are read are within their ranges
pub settings_on_ok : (d : Data) (s : Settings) → settings_in d ≡ Some s → IsSettings s
settings_on_ok d s e = at_some IsSettings (settings_in d) s (settings_within d) e

-- a step that is read is within its ranges
pub step_on_ok : (d : Data) (s : Step) → step_form d ≡ Some (Ok s) → IsStepWithin s
step_on_ok d s e = at_some IsWithinOnOk (step_form d) (Ok s) (step_within d) e

-- the front of a text, with one byte above the limit, tells what the whole does
pub script_of_front : (text bytes : List ℕ) → take 4194305 text ≡ bytes → script_of text ≡ script_of bytes
script_of_front text bytes front = ap (λ t. or_text t >>= script_in) (text_of_front text bytes front)
