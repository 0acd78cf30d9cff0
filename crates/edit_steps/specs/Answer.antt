-- What judging a script, or a step of it, answers.
use Rattle.std.specs.Prelude.{◌≡◌, ⊤, Option, Some, None, Result, Ok, Err}
use Rattle.edit_steps.specs.declared.fault.ScriptFault.{ScriptFault}
use Rattle.edit_steps.specs.declared.fault.ScriptEnd.{ScriptEnd}
use Rattle.edit_steps.specs.declared.fault.ScriptEnd.TheVariants.{Fault, Memory}

-- Ok where there is no fault, else the fault. Want of memory says nothing.
abbrev pub Judges : {X : Type 0} → Option ScriptFault → Result X ScriptEnd → Type 0
Judges fault (Ok x) = fault ≡ None
Judges fault (Err (Fault f)) = fault ≡ Some f
Judges fault (Err Memory) = ⊤
