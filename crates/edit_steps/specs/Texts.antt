-- The texts of the reasons.
use Rattle.std.specs.Prelude.{ℕ, List, ◌++◌, codes}
use Rattle.std.specs.Fmt.{signed_decimal}
use Rattle.params.specs.declared.fault.ParamFault.{ParamFault}
use Rattle.params.specs.Names.{name_of_field}
use Rattle.history.specs.declared.fault.EditFault.{EditFault}
use Rattle.history.specs.declared.fault.EditFault.TheVariants as faults
use Rattle.edit_steps.specs.declared.fault.Reason.{Reason}
use Rattle.edit_steps.specs.declared.fault.Reason.TheVariants as reasons

-- a value out of its range: the key of its field, and the value
abbrev pub param_text : ParamFault → List ℕ
param_text fault = codes "param " ++ (name_of_field fault.field ++ (codes " " ++ signed_decimal fault.value))

abbrev pub edit_text : EditFault → List ℕ
edit_text faults.FixedModule = codes "fixed module"
edit_text faults.NoInstance = codes "no instance"
edit_text (faults.BadParams fault) = param_text fault
edit_text faults.EndPast = codes "end past"
edit_text faults.InstanceTaken = codes "instance taken"
edit_text faults.TooManyInstances = codes "too many instances"
edit_text faults.OrderRule = codes "order rule"

abbrev pub reason_text : Reason → List ℕ
reason_text reasons.TooLong = codes "too long"
reason_text reasons.Text = codes "text"
reason_text reasons.Form = codes "form"
reason_text (reasons.Param fault) = param_text fault
reason_text (reasons.Edit fault) = edit_text fault
reason_text reasons.TooManyChanges = codes "too many changes"
reason_text reasons.TooManyExports = codes "too many exports"
reason_text reasons.TooManyThumbnails = codes "too many thumbnails"
reason_text reasons.TooManySettles = codes "too many settles"
reason_text reasons.NoSecond = codes "no second window"
reason_text reasons.NothingToUndo = codes "nothing to undo"
reason_text reasons.NothingToRedo = codes "nothing to redo"
