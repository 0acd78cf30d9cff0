-- The script that a text is, or its first fault. The order of the binds is the order of the faults.
use Rattle.std.specs.Prelude.{ℕ, ◌+◌, nat_lt, if◌then◌else◌, List, [], ◌∷◌, length, Option, Some, None, option_map, Result, Ok, Err, codes}
use Rattle.serde_json.specs.Data.{Data, Items, no_items, item}
use Rattle.serde_json.specs.Find.{get}
use Rattle.params.specs.declared.fault.ParamFault.{ParamFault}
use Rattle.params.specs.Form.{items_at}
use Rattle.json_form.specs.declared.text.TextEnd.{TextEnd}
use Rattle.json_form.specs.declared.text.TextEnd.TheVariants as texts
use Rattle.json_form.specs.Text.{text_of}
use Rattle.module_order.specs.declared.slots.Slot.{Slot}
use Rattle.module_order.specs.Slot.{start_slots}
use Rattle.module_order.specs.Faults.{unless, order_fault}
use Rattle.history.specs.declared.items.Item.{Item}
use Rattle.history.specs.declared.fault.EditFault.{EditFault}
use Rattle.history.specs.Stack.{Stack, stack}
use Rattle.history.specs.Faults.{stack_fault, of_order}
use Rattle.edit_steps.specs.declared.fault.Reason.{Reason}
use Rattle.edit_steps.specs.declared.fault.Reason.TheVariants.{TooLong, Text, Form, Param, Edit, TooManyChanges}
use Rattle.edit_steps.specs.declared.fault.ScriptFault.{ScriptFault}
use Rattle.edit_steps.specs.Faults.{next_fault}
use Rattle.edit_steps.specs.Script.{Recipe, recipe, with_step}
use Rattle.edit_script.specs.Binds.{◌>>=◌}
use Rattle.edit_script.specs.Parts.{if_only}
use Rattle.edit_script.specs.Settings.{settings_in}
use Rattle.edit_script.specs.Step.{step_form}
use Rattle.edit_script.specs.Opening.{Stated, history_form}

-- ---- faults, each at a step: 0 stands for all that isn't a step

abbrev pub fault_at : ℕ → Reason → ScriptFault
fault_at step reason = record { step = step; reason = reason }

abbrev pub or_form : {A : Type 0} → ℕ → Option A → Result A ScriptFault
or_form step None = Err (fault_at step Form)
or_form step (Some x) = Ok x

abbrev pub or_param : {A : Type 0} → ℕ → Result A ParamFault → Result A ScriptFault
or_param step (Ok x) = Ok x
or_param step (Err f) = Err (fault_at step (Param f))

abbrev pub or_text : Result Data TextEnd → Result Data ScriptFault
or_text (Ok d) = Ok d
or_text (Err texts.TooLong) = Err (fault_at 0 TooLong)
or_text (Err texts.Text) = Err (fault_at 0 Text)
or_text (Err texts.Memory) = Err (fault_at 0 Text)

abbrev pub unless_edit : {A : Type 0} → Option EditFault → A → Result A ScriptFault
unless_edit fault x = unless (option_map (λ f. fault_at 0 (Edit f)) fault) x

-- ---- the opening history

abbrev pub few_items : List Item → Result (List Item) ScriptFault
few_items items = if nat_lt 256 (length items) then Err (fault_at 0 TooManyChanges) else Ok items

abbrev pub order_of : List Slot → Result (List Slot) ScriptFault
order_of slots = unless_edit (option_map of_order (order_fault slots)) slots

abbrev pub stack_of : Stack → Result Stack ScriptFault
stack_of h = unless_edit (stack_fault h) h

unfoldable pub opening_of : Stated → Result Stack ScriptFault
opening_of stated = do
  all ← or_param 0 stated.items
  items ← few_items all
  order ← order_of stated.order
  stack_of (stack items stated.end order)

-- the history of a picture without edits
abbrev pub start_history : Stack
start_history = stack [] 0 start_slots

-- the opening history at its key, where an absent key stands for the start history
abbrev pub opening_at : Option Data → Result Stack ScriptFault
opening_at None = Ok start_history
opening_at (Some d) = or_form 0 (history_form d) >>= opening_of

-- ---- the steps

-- the script with the step that a value is
unfoldable pub step_behind : Recipe → Data → Result Recipe ScriptFault
step_behind r d = do
  formed ← or_form (length r.steps + 1) (step_form d)
  step ← or_param (length r.steps + 1) formed
  unless (next_fault r.settings r.opening r.steps step) (with_step r step)

abbrev pub steps_behind : Recipe → Items → Result Recipe ScriptFault
steps_behind r no_items = Ok r
steps_behind r (item d ds) = step_behind r d >>= λ next. steps_behind next ds

-- ---- the whole

abbrev pub script_keys : List (List ℕ)
script_keys = codes "settings" ∷ codes "history" ∷ codes "steps" ∷ []

abbrev pub steps_in : Data → Option Items
steps_in d = if_only script_keys d (items_at (codes "steps") d)

unfoldable pub script_in : Data → Result Recipe ScriptFault
script_in d = do
  values ← or_form 0 (steps_in d)
  settings ← or_form 0 (settings_in d)
  opening ← opening_at (get (codes "history") d)
  steps_behind (recipe settings opening []) values

abbrev pub script_of : List ℕ → Result Recipe ScriptFault
script_of bytes = or_text (text_of bytes) >>= script_in
