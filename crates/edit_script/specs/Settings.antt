-- The form of a script's settings.
use Rattle.std.specs.Prelude.{List, ℕ, [], ◌∷◌, Option, Some, unwrap_or, codes}
use Rattle.serde_json.specs.Data.{Data, object, no_members}
use Rattle.serde_json.specs.Find.{get}
use Rattle.edit_steps.specs.declared.settings.Settings.{Settings}
use Rattle.edit_steps.specs.Settings.{start_settings}
use Rattle.params.specs.Form.{natural_or, or_absent, ◌>>=◌}
use Rattle.params.specs.Stated.{null_or}
use Rattle.edit_script.specs.Parts.{if_only, depth_form, cfa_form, view_form}

abbrev pub settings_keys : List (List ℕ)
settings_keys = codes "cfa" ∷ codes "depth" ∷ codes "preview_side" ∷ codes "workers" ∷ codes "stage_entries" ∷ codes "stage_pixels" ∷ codes "mip_slots" ∷ codes "undo_depth" ∷ codes "view" ∷ codes "second" ∷ []

unfoldable pub settings_at_keys : Data → Option Settings
settings_at_keys d = do
  cfa ← or_absent start_settings.cfa cfa_form (get (codes "cfa") d)
  depth ← or_absent start_settings.depth depth_form (get (codes "depth") d)
  preview_side ← natural_or (codes "preview_side") start_settings.preview_side 64 720 d
  workers ← natural_or (codes "workers") start_settings.workers 1 4 d
  stage_entries ← natural_or (codes "stage_entries") start_settings.stage_entries 1 64 d
  stage_pixels ← natural_or (codes "stage_pixels") start_settings.stage_pixels 0 33554432 d
  mip_slots ← natural_or (codes "mip_slots") start_settings.mip_slots 1 4 d
  undo_depth ← natural_or (codes "undo_depth") start_settings.undo_depth 1 64 d
  view ← or_absent start_settings.view view_form (get (codes "view") d)
  second ← or_absent start_settings.second (null_or view_form) (get (codes "second") d)
  Some (record { cfa = cfa; depth = depth; preview_side = preview_side; workers = workers; stage_entries = stage_entries; stage_pixels = stage_pixels; mip_slots = mip_slots; undo_depth = undo_depth; view = view; second = second })

abbrev pub settings_form : Data → Option Settings
settings_form d = if_only settings_keys d (settings_at_keys d)

-- the settings at their key, where an absent key stands for an empty object
abbrev pub settings_in : Data → Option Settings
settings_in d = settings_form (unwrap_or (get (codes "settings") d) (object no_members))
