-- The script that a number makes: settings, an opening history and 40 steps.
use Rattle.std.specs.Prelude.{◌≡◌, ⊤, ℕ, zero, suc, ◌+◌, ◌-◌, ◌*◌, ◌%◌, ◌≤◌, ◌==◌, pos, Bool, true, false, nat_le, if◌then◌else◌, List, [], ◌∷◌, ◌++◌, length, count_by, Option, Some, None, Result, Ok, Err}
use Rattle.px.specs.declared.depth.Depth.TheVariants.{Eight, Sixteen}
use Rattle.px.specs.declared.kind.Cfa.TheVariants.{Rggb}
use Rattle.px.specs.declared.view.View.{View}
use Rattle.params.specs.declared.blending.Blend.{Blend}
use Rattle.params.specs.declared.blending.Mode.TheVariants.{Normal}
use Rattle.params.specs.declared.blending.Shape.TheVariants.{Ellipse}
use Rattle.params.specs.declared.settings.Params.{Params}
use Rattle.params.specs.declared.settings.Params.TheVariants.{RawPrepare, Temperature, Orientation, Crop, Exposure, ChannelMixer}
use Rattle.module_order.specs.Slot.{start_slots}
use Rattle.history.specs.declared.items.Item.{Item}
use Rattle.history.specs.declared.edits.Edit.TheVariants as edits
use Rattle.history.specs.Stack.{Stack, stack}
use Rattle.edit_steps.specs.declared.settings.Settings.{Settings}
use Rattle.edit_steps.specs.declared.step.Step.{Step}
use Rattle.edit_steps.specs.declared.step.Step.TheVariants as steps
use Rattle.edit_steps.specs.declared.fault.ScriptFault.{ScriptFault}
use Rattle.edit_steps.specs.declared.fault.ScriptEnd.{ScriptEnd}
use Rattle.edit_steps.specs.declared.fault.ScriptEnd.TheVariants.{Fault, Memory}
use Rattle.edit_steps.specs.Faults.{is_export, steps_fault}
use Rattle.edit_steps.specs.Script.{Recipe, recipe, changes, history_at}
use Rattle.generator.specs.Draws.{draw}

-- ---- the settings and the opening history

abbrev pub gen_view : View
gen_view = record { factor = 1; cx = 32768; cy = 32768; w = 320; h = 240 }

abbrev pub gen_settings : Settings
gen_settings = record {
  cfa = Some Rggb;
  depth = Eight;
  preview_side = 256;
  workers = 2;
  stage_entries = 8;
  stage_pixels = 1048576;
  mip_slots = 1;
  undo_depth = 32;
  view = gen_view;
  second = None;
}

-- instance 0 of a module, enabled
abbrev pub item_of : Params → Option Blend → Item
item_of params blend = record { instance = 0; enabled = true; params = params; blend = blend }

abbrev pub raw_params : Params
raw_params = RawPrepare (record { black = 64 ∷ 64 ∷ 64 ∷ []; white = 1023 })

abbrev pub temperature_params : Params
temperature_params = Temperature (record { mul = 8192 ∷ 4096 ∷ 6144 ∷ [] })

abbrev pub opening_items : List Item
opening_items = item_of raw_params None ∷ item_of temperature_params None ∷ []

abbrev pub gen_opening : Stack
gen_opening = stack opening_items 2 start_slots

-- ---- the steps

abbrev pub set_step : Params → Option Blend → Step
set_step params blend = steps.Edit (edits.Set (item_of params blend))

abbrev pub exposure_of : ℕ → Params
exposure_of gain = Exposure (record { black = pos 0; gain = gain; stops = pos 0 })

-- the identity, but that green gives to red
abbrev pub mixer_of : ℕ → Params
mixer_of green = ChannelMixer (record { rows = pos 4096 ∷ pos green ∷ pos 0 ∷ pos 0 ∷ pos 4096 ∷ pos 0 ∷ pos 0 ∷ pos 0 ∷ pos 4096 ∷ [] })

abbrev pub crop_of : ℕ → Params
crop_of v = Crop (record { left = v % 16384; top = v % 16384; right = 65536 - v % 8192; bottom = 65536 })

-- an ellipse in the middle
abbrev pub blend_of : ℕ → Blend
blend_of v = record { opacity = v % 65537; mode = Normal; mask = Some (Ellipse 32768 32768 (pos 1) (pos 0) 400 (100 + v % 300) 65536) }

abbrev pub orientation_of : Bool → Params
orientation_of swap = Orientation (record { swap = swap; flip_x = false; flip_y = false })

abbrev pub view_of : ℕ → View
view_of v = record { factor = 1 + v % 4; cx = v % 65537; cy = v % 65537; w = 320; h = 240 }

abbrev pub is_odd : ℕ → Bool
is_odd v = v % 2 == 1

abbrev pub export_of : ℕ → Step
export_of v = steps.Export (Some (record { w = 512; h = 512 })) (if is_odd v then Sixteen else Eight)

-- the step that these draws make, where the history has so many items, and where all exports were asked for or not
abbrev pub step_of : ℕ → ℕ → ℕ → Bool → Step
step_of k v items all_asked =
    if k % 8 == 0 then set_step (exposure_of (2048 + v % 4096)) None
    else if k % 8 == 1 then set_step (mixer_of (v % 2048)) None
    else if k % 8 == 2 then set_step (crop_of v) None
    else if k % 8 == 3 then set_step (exposure_of 8192) (Some (blend_of v))
    else if k % 8 == 4 then steps.Edit (edits.Select (v % (items + 1)))
    else if k % 8 == 5 then set_step (orientation_of (is_odd v)) None
    else if k % 8 == 6 then steps.View (view_of v)
    else if all_asked then steps.Settle
    else export_of v

-- the script of some steps
abbrev pub script_of : List Step → Recipe
script_of steps = recipe gen_settings gen_opening steps

-- how many items the history has that the steps leave
abbrev pub item_count : List Step → ℕ
item_count steps = length (history_at (script_of steps) (changes (script_of steps))).items

-- 8 exports are among the steps
abbrev pub has_all_exports : List Step → Bool
has_all_exports steps = nat_le 8 (count_by is_export steps)

-- step i, counted from 0, behind those before it: each step has three draws. `g` is the number behind the picture's draws
abbrev pub step_behind : ℕ → ℕ → List Step → Step
step_behind g i before = step_of (draw g (3 * i + 1)) (draw g (3 * i + 2)) (item_count before) (has_all_exports before)

-- how many rounds follow step i
abbrev pub rounds_behind : ℕ → ℕ → ℕ
rounds_behind g i = draw g (3 * i + 3) % 12

-- the first steps
unfoldable pub steps_to : ℕ → ℕ → List Step
steps_to g zero = []
steps_to g (suc i) = steps_to g i ++ step_behind g i (steps_to g i) ∷ []

-- ---- refusals

-- why the script of some steps is refused
abbrev pub script_fault : List Step → Option ScriptFault
script_fault steps = steps_fault gen_settings gen_opening [] steps

-- some of the first steps are refused with this fault
pub record IsFaultOf (g : ℕ) (fault : ScriptFault) : Type 0 where
  pub count : ℕ
  pub few : count ≤ 40
  pub is_fault : script_fault (steps_to g count) ≡ Some fault

-- a refusal tells such a fault
abbrev pub TellsFault : {X : Type 0} → ℕ → Result X ScriptEnd → Type 0
TellsFault g (Ok x) = ⊤
TellsFault g (Err (Fault f)) = IsFaultOf g f
TellsFault g (Err Memory) = ⊤
