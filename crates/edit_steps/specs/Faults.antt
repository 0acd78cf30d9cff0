-- Why a step is refused behind those before it.
use Rattle.std.specs.Prelude.{ℕ, ◌+◌, Bool, true, false, nat_le, is_some, if◌then◌else◌, List, [], ◌∷◌, ◌++◌, length, count_by, Option, Some, None, option_map}
use Rattle.std.specs.Option.{option_or}
use Rattle.history.specs.Stack.{Stack}
use Rattle.history.specs.Faults.{edit_fault}
use Rattle.edit_steps.specs.declared.settings.Settings.{Settings}
use Rattle.edit_steps.specs.declared.step.Step.{Step}
use Rattle.edit_steps.specs.declared.step.Step.TheVariants as steps
use Rattle.edit_steps.specs.declared.fault.Reason.{Reason}
use Rattle.edit_steps.specs.declared.fault.Reason.TheVariants as reasons
use Rattle.edit_steps.specs.declared.fault.ScriptFault.{ScriptFault}
use Rattle.edit_steps.specs.Changes.{is_change, Histories, first_histories, histories_after}

abbrev pub is_export : Step → Bool
is_export (steps.Export size depth) = true
is_export _ = false

abbrev pub is_thumbnail : Step → Bool
is_thumbnail (steps.Thumbnail size) = true
is_thumbnail _ = false

abbrev pub is_settle : Step → Bool
is_settle steps.Settle = true
is_settle _ = false

-- the reason, where so many of the steps pass the test already
abbrev pub refuse_from : ℕ → Reason → (Step → Bool) → List Step → Option Reason
refuse_from most reason passes before = if nat_le most (count_by passes before) then Some reason else None

-- the fault of a change more
abbrev pub change_limit : List Step → Option Reason
change_limit before = refuse_from 256 reasons.TooManyChanges is_change before

-- the fault of a step more of its sort
abbrev pub limit_fault : List Step → Step → Option Reason
limit_fault before (steps.Edit edit) = change_limit before
limit_fault before steps.Undo = change_limit before
limit_fault before steps.Redo = change_limit before
limit_fault before (steps.View view) = change_limit before
limit_fault before (steps.Second view) = change_limit before
limit_fault before (steps.Export size depth) = refuse_from 8 reasons.TooManyExports is_export before
limit_fault before (steps.Thumbnail size) = refuse_from 16 reasons.TooManyThumbnails is_thumbnail before
limit_fault before steps.Settle = refuse_from 256 reasons.TooManySettles is_settle before

-- the fault of a step at the windows: a second view wants a second window
abbrev pub window_fault : Settings → Step → Option Reason
window_fault s (steps.Second view) = if is_some s.second then None else Some reasons.NoSecond
window_fault s _ = None

-- the reason, where there is no history to go to
abbrev pub unless_some : Reason → List Stack → Option Reason
unless_some reason [] = Some reason
unless_some reason (h ∷ hs) = None

-- the fault of a step on the histories before it: an undo wants a past, a redo a future, and an edit may not be allowed
abbrev pub history_fault : Histories → Step → Option Reason
history_fault hs (steps.Edit edit) = option_map reasons.Edit (edit_fault hs.present edit)
history_fault hs steps.Undo = unless_some reasons.NothingToUndo hs.past
history_fault hs steps.Redo = unless_some reasons.NothingToRedo hs.future
history_fault hs _ = None

-- why the step can't follow those before it: its limit, then the windows, then the histories that they leave
abbrev pub step_fault : Settings → Stack → List Step → Step → Option Reason
step_fault settings opening before step =
    option_or (limit_fault before step) (option_or (window_fault settings step) (history_fault (histories_after (first_histories settings opening) before) step))

-- the reason at the step behind those before it
abbrev pub fault_behind : List Step → Reason → ScriptFault
fault_behind before reason = record { step = length before + 1; reason = reason }

-- the same with the step's number
abbrev pub next_fault : Settings → Stack → List Step → Step → Option ScriptFault
next_fault settings opening before step = option_map (fault_behind before) (step_fault settings opening before step)

-- the first fault of steps that follow those before them
abbrev pub steps_fault : Settings → Stack → List Step → List Step → Option ScriptFault
steps_fault settings opening before [] = None
steps_fault settings opening before (s ∷ ss) = option_or (next_fault settings opening before s) (steps_fault settings opening (before ++ s ∷ []) ss)
