-- The JSON values that are written for scripts. Keys stand in the order of their bytes.
use Rattle.std.specs.Prelude.{ℕ, List, map, slice_index_or, Option, Some, None, codes}
use Rattle.serde_json.specs.Data.{Data, null, boolean, string, array, object, no_members, member}
use Rattle.serde_json.specs.View.{items_of}
use Rattle.px.specs.declared.depth.Depth.{Depth}
use Rattle.px.specs.declared.depth.Depth.TheVariants.{Eight, Sixteen}
use Rattle.px.specs.declared.kind.Cfa.{Cfa}
use Rattle.px.specs.declared.view.View.{View}
use Rattle.px.specs.declared.view.BoxSize.{BoxSize}
use Rattle.params.specs.declared.modules.Module.{Module}
use Rattle.params.specs.declared.modules.Module.TheVariants as modules
use Rattle.params.specs.Names.{name_of_module}
use Rattle.params.specs.Table.{all_modules}
use Rattle.params.specs.Ranges.{module_of, newest_of}
use Rattle.params.specs.Written.{natural_data, pair_data, params_data, blend_data}
use Rattle.module_order.specs.declared.slots.Slot.{Slot}
use Rattle.history.specs.declared.items.Item.{Item}
use Rattle.history.specs.declared.edits.Edit.{Edit}
use Rattle.history.specs.declared.edits.Edit.TheVariants as edits
use Rattle.history.specs.Stack.{Stack}
use Rattle.edit_steps.specs.declared.settings.Settings.{Settings}
use Rattle.edit_steps.specs.declared.step.Step.{Step}
use Rattle.edit_steps.specs.declared.step.Step.TheVariants as steps
use Rattle.edit_steps.specs.Script.{Recipe}
use Rattle.edit_script.specs.Parts.{name_of_cfa}

-- ---- parts

abbrev pub bits_of : Depth → ℕ
bits_of Eight = 8
bits_of Sixteen = 16

abbrev pub depth_data : Depth → Data
depth_data depth = natural_data (bits_of depth)

abbrev pub cfa_data : Option Cfa → Data
cfa_data None = null
cfa_data (Some cfa) = string (name_of_cfa cfa)

abbrev pub box_data : BoxSize → Data
box_data b = pair_data (natural_data b.w) (natural_data b.h)

abbrev pub box_or_null : Option BoxSize → Data
box_or_null None = null
box_or_null (Some b) = box_data b

unfoldable pub view_data : View → Data
view_data v = object (
    member (codes "cx") (natural_data v.cx) (member (codes "cy") (natural_data v.cy) (member (codes "factor") (natural_data v.factor)
    (member (codes "h") (natural_data v.h) (member (codes "w") (natural_data v.w) no_members)))))

-- the second window's view, or null for none
abbrev pub view_or_null : Option View → Data
view_or_null None = null
view_or_null (Some v) = view_data v

unfoldable pub settings_data : Settings → Data
settings_data s = object (
    member (codes "cfa") (cfa_data s.cfa) (member (codes "depth") (depth_data s.depth) (member (codes "mip_slots") (natural_data s.mip_slots)
    (member (codes "preview_side") (natural_data s.preview_side) (member (codes "second") (view_or_null s.second)
    (member (codes "stage_entries") (natural_data s.stage_entries) (member (codes "stage_pixels") (natural_data s.stage_pixels)
    (member (codes "undo_depth") (natural_data s.undo_depth) (member (codes "view") (view_data s.view)
    (member (codes "workers") (natural_data s.workers) no_members))))))))))

-- ---- the opening history

abbrev pub module_word : Module → Data
module_word m = string (name_of_module m)

-- the version that is written: the newest of the module
abbrev pub version_data : Item → Data
version_data i = natural_data (newest_of (module_of i.params))

unfoldable pub item_data : Item → Data
item_data i = object (
    member (codes "blend") (blend_data i.blend) (member (codes "enabled") (boolean i.enabled) (member (codes "instance") (natural_data i.instance)
    (member (codes "module") (module_word (module_of i.params)) (member (codes "params") (params_data i.params) (member (codes "version") (version_data i) no_members))))))

-- the module of a number
abbrev pub module_numbered : ℕ → Module
module_numbered n = slice_index_or all_modules n modules.ToneCurve

abbrev pub slot_data : Slot → Data
slot_data s = pair_data (module_word (module_numbered s.module)) (natural_data s.instance)

unfoldable pub history_data : Stack → Data
history_data h = object (
    member (codes "end") (natural_data h.end) (member (codes "items") (array (items_of (map item_data h.items)))
    (member (codes "order") (array (items_of (map slot_data h.order))) no_members)))

-- ---- steps

unfoldable pub set_data : Item → Data
set_data i = object (
    member (codes "blend") (blend_data i.blend) (member (codes "do") (string (codes "set")) (member (codes "enabled") (boolean i.enabled)
    (member (codes "instance") (natural_data i.instance) (member (codes "module") (module_word (module_of i.params))
    (member (codes "params") (params_data i.params) (member (codes "version") (version_data i) no_members)))))))

unfoldable pub select_data : ℕ → Data
select_data end = object (member (codes "do") (string (codes "select")) (member (codes "end") (natural_data end) no_members))

-- a step without other keys
unfoldable pub word_data : List ℕ → Data
word_data name = object (member (codes "do") (string name) no_members)

-- a step that puts an instance at a place
unfoldable pub placed_data : List ℕ → Module → ℕ → ℕ → Data
placed_data name m instance place = object (
    member (codes "do") (string name) (member (codes "instance") (natural_data instance)
    (member (codes "module") (module_word m) (member (codes "place") (natural_data place) no_members))))

unfoldable pub delete_data : Module → ℕ → Data
delete_data m instance = object (
    member (codes "do") (string (codes "delete")) (member (codes "instance") (natural_data instance) (member (codes "module") (module_word m) no_members)))

abbrev pub edit_data : Edit → Data
edit_data (edits.Set item) = set_data item
edit_data (edits.Select end) = select_data end
edit_data edits.Compress = word_data (codes "compress")
edit_data (edits.Add m instance place) = placed_data (codes "add") m instance place
edit_data (edits.Delete m instance) = delete_data m instance
edit_data (edits.Move m instance place) = placed_data (codes "move") m instance place

-- a step that changes what a window shows
unfoldable pub view_step_data : List ℕ → View → Data
view_step_data name v = object (
    member (codes "cx") (natural_data v.cx) (member (codes "cy") (natural_data v.cy) (member (codes "do") (string name)
    (member (codes "factor") (natural_data v.factor) (member (codes "h") (natural_data v.h) (member (codes "w") (natural_data v.w) no_members))))))

unfoldable pub export_data : Option BoxSize → Depth → Data
export_data size depth = object (
    member (codes "box") (box_or_null size) (member (codes "depth") (depth_data depth) (member (codes "do") (string (codes "export")) no_members)))

unfoldable pub thumbnail_data : BoxSize → Data
thumbnail_data size = object (member (codes "box") (box_data size) (member (codes "do") (string (codes "thumbnail")) no_members))

abbrev pub step_data : Step → Data
step_data (steps.Edit edit) = edit_data edit
step_data steps.Undo = word_data (codes "undo")
step_data steps.Redo = word_data (codes "redo")
step_data (steps.View view) = view_step_data (codes "view") view
step_data (steps.Second view) = view_step_data (codes "second") view
step_data (steps.Export size depth) = export_data size depth
step_data (steps.Thumbnail size) = thumbnail_data size
step_data steps.Settle = word_data (codes "settle")

-- ---- the whole

unfoldable pub script_data : Recipe → Data
script_data r = object (
    member (codes "history") (history_data r.opening) (member (codes "settings") (settings_data r.settings)
    (member (codes "steps") (array (items_of (map step_data r.steps))) no_members)))
