use Rattle.std.proofs.Common.{◌≡◌, map, take}
use Rattle.std.specs.List.{AllWithin}
use Rattle.serde_json.specs.View.{view}
use Rattle.edit_script.specs.Written.{step_data}
use Rattle.edit_script.specs.Typed.{IsStepTyped}
use Rattle.edit_script.proofs.step_data.steps_data.Given as goal

abbrev pub invariant-loop-step : goal.invariant-loop-step
invariant-loop-step l = record {
  same : map view l.values.items ≡ map step_data (take l.step-index l.steps);
  typed : AllWithin IsStepTyped l.steps 0 l.step-index;
}
