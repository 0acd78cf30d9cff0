-- Steps: their form, then their numbers.
use Rattle.std.specs.Prelude.{ℕ, List, [], ◌∷◌, Option, Some, None, option_map, option_and_then, Result, Ok, codes, bytes_eq, if◌then◌else◌}
use Rattle.std.specs.Result.{result_map_both}
use Rattle.serde_json.specs.Data.{Data}
use Rattle.serde_json.specs.Find.{get}
use Rattle.px.specs.declared.depth.Depth.TheVariants.{Eight}
use Rattle.params.specs.declared.fault.ParamFault.{ParamFault}
use Rattle.params.specs.Form.{natural_at, text_at, or_absent, ◌>>=◌}
use Rattle.params.specs.Stated.{null_or}
use Rattle.history.specs.declared.items.Item.{Item}
use Rattle.history.specs.declared.edits.Edit.TheVariants as edits
use Rattle.edit_steps.specs.declared.step.Step.{Step}
use Rattle.edit_steps.specs.declared.step.Step.TheVariants as steps
use Rattle.edit_script.specs.Parts.{if_only, depth_form, sides_form, view_keys, view_at_keys}
use Rattle.edit_script.specs.Item.{module_at, item_keys, item_at_keys}

-- an object that has `do` and no key but these
abbrev pub if_step : {A : Type 0} → List (List ℕ) → Data → Option A → Option A
if_step keys d form = if_only (codes "do" ∷ keys) d form

-- ---- steps without settings of a module

unfoldable pub select_form : Data → Option Step
select_form d = if_step (codes "end" ∷ []) d (do
  end ← natural_at (codes "end") 0 65535 d
  Some (steps.Edit (edits.Select end)))

abbrev pub compress_form : Data → Option Step
compress_form d = if_step [] d (Some (steps.Edit edits.Compress))

abbrev pub undo_form : Data → Option Step
undo_form d = if_step [] d (Some steps.Undo)

abbrev pub redo_form : Data → Option Step
redo_form d = if_step [] d (Some steps.Redo)

abbrev pub settle_form : Data → Option Step
settle_form d = if_step [] d (Some steps.Settle)

abbrev pub instance_at : Data → Option ℕ
instance_at d = natural_at (codes "instance") 0 255 d

abbrev pub place_at : Data → Option ℕ
place_at d = natural_at (codes "place") 0 65535 d

unfoldable pub add_form : Data → Option Step
add_form d = if_step (codes "module" ∷ codes "instance" ∷ codes "place" ∷ []) d (do
  m ← module_at d
  instance ← instance_at d
  place ← place_at d
  Some (steps.Edit (edits.Add m instance place)))

unfoldable pub move_form : Data → Option Step
move_form d = if_step (codes "module" ∷ codes "instance" ∷ codes "place" ∷ []) d (do
  m ← module_at d
  instance ← instance_at d
  place ← place_at d
  Some (steps.Edit (edits.Move m instance place)))

unfoldable pub delete_form : Data → Option Step
delete_form d = if_step (codes "module" ∷ codes "instance" ∷ []) d (do
  m ← module_at d
  instance ← instance_at d
  Some (steps.Edit (edits.Delete m instance)))

abbrev pub view_step_form : Data → Option Step
view_step_form d = if_step view_keys d (option_map steps.View (view_at_keys d))

abbrev pub second_step_form : Data → Option Step
second_step_form d = if_step view_keys d (option_map steps.Second (view_at_keys d))

unfoldable pub export_form : Data → Option Step
export_form d = if_step (codes "box" ∷ codes "depth" ∷ []) d (do
  size ← or_absent None (null_or (sides_form 16384)) (get (codes "box") d)
  depth ← or_absent Eight depth_form (get (codes "depth") d)
  Some (steps.Export size depth))

unfoldable pub thumbnail_form : Data → Option Step
thumbnail_form d = if_step (codes "box" ∷ []) d (do
  value ← get (codes "box") d
  size ← sides_form 720 value
  Some (steps.Thumbnail size))

abbrev pub plain_form : List ℕ → Data → Option Step
plain_form word d =
    if bytes_eq word (codes "select") then select_form d
    else (if bytes_eq word (codes "compress") then compress_form d
    else (if bytes_eq word (codes "undo") then undo_form d
    else (if bytes_eq word (codes "redo") then redo_form d
    else (if bytes_eq word (codes "settle") then settle_form d
    else (if bytes_eq word (codes "add") then add_form d
    else (if bytes_eq word (codes "move") then move_form d
    else (if bytes_eq word (codes "delete") then delete_form d
    else (if bytes_eq word (codes "view") then view_step_form d
    else (if bytes_eq word (codes "second") then second_step_form d
    else (if bytes_eq word (codes "export") then export_form d
    else (if bytes_eq word (codes "thumbnail") then thumbnail_form d
    else None)))))))))))

-- ---- all steps

abbrev pub set_of : Result Item ParamFault → Result Step ParamFault
set_of item = result_map_both (λ i. steps.Edit (edits.Set i)) (λ f. f) item

unfoldable pub set_form : Data → Option (Result Step ParamFault)
set_form d = if_step item_keys d (option_map set_of (item_at_keys d))

abbrev pub step_named : Data → List ℕ → Option (Result Step ParamFault)
step_named d word = if bytes_eq word (codes "set") then set_form d else option_map Ok (plain_form word d)

-- the step that a value is, if it has the form: the step, or the first number outside its range
unfoldable pub step_form : Data → Option (Result Step ParamFault)
step_form d = option_and_then (step_named d) (text_at (codes "do") d)
