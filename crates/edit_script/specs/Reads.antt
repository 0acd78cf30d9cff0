-- what the readers answer
use Rattle.std.specs.Prelude.{◌≡◌, ℕ, Bool, true, false, Option, Some, None, Result, Ok, Err, ⊤}
use Rattle.edit_steps.specs.declared.fault.ScriptFault.{ScriptFault}
use Rattle.edit_steps.specs.declared.fault.ScriptEnd.{ScriptEnd}
use Rattle.edit_steps.specs.declared.fault.ScriptEnd.TheVariants as ends
use Rattle.history.specs.declared.fault.EditFault.{EditFault}
use Rattle.history.specs.declared.fault.EditFault.TheVariants as faults
use Rattle.edit_steps.specs.declared.fault.Reason.{Reason}
use Rattle.edit_steps.specs.declared.fault.Reason.TheVariants as reasons
use Rattle.edit_script.specs.declared.form_end.FormEnd.{FormEnd}
use Rattle.edit_script.specs.declared.form_end.FormEnd.TheVariants.{Form, Memory}
use Rattle.edit_script.specs.Script.{fault_at}

-- what was returned, seen by `view`, is what the form gives, unless memory ran out
abbrev pub IsFormed : {X Y : Type 0} → (X → Y) → Result X FormEnd → Option Y → Type 0
IsFormed view (Ok x) form = form ≡ Some (view x)
IsFormed view (Err Form) form = form ≡ None
IsFormed view (Err Memory) form = ⊤

-- what was returned, seen by `view`, is what reading gives, unless memory ran out
abbrev pub IsReadAs : {X Y : Type 0} → (X → Y) → Result X ScriptEnd → Result Y ScriptFault → Type 0
IsReadAs view (Ok x) read = read ≡ Ok (view x)
IsReadAs view (Err (ends.Fault f)) read = read ≡ Err f
IsReadAs view (Err ends.Memory) read = ⊤

-- why nothing was read at a step where a form was asked for
abbrev pub end_at : ℕ → FormEnd → ScriptEnd
end_at step Form = ends.Fault (fault_at step reasons.Form)
end_at step Memory = ends.Memory

-- ---- values of an edit outside their ranges: a fault of parameters, never of the edit

abbrev pub is_bad_params : EditFault → Bool
is_bad_params (faults.BadParams f) = true
is_bad_params _ = false

abbrev pub is_bad_edit : Reason → Bool
is_bad_edit (reasons.Edit f) = is_bad_params f
is_bad_edit _ = false

abbrev pub HasNoBadParams : ScriptFault → Type 0
HasNoBadParams f = is_bad_edit f.reason ≡ false

abbrev pub EndsWithoutBadParams : ScriptEnd → Type 0
EndsWithoutBadParams (ends.Fault f) = HasNoBadParams f
EndsWithoutBadParams ends.Memory = ⊤
