-- What is written for settings, items and steps has the form that is read, and says the same.
use Rattle.std.proofs.Common.{◌≡◌, ℕ, ◌*◌, ◌^◌, ◌<◌, ◌≤◌, ℤ, pos, ◌≤ℤ◌, Bool, true, false, ◌&&◌, List, Option, Some, None, option_and_then, Result, Ok, IfSome, refl, ap, ◌∙◌, arith, codes}
use Rattle.std.specs.Prelude.{nat_le, if◌then◌else◌, is_some}
use Rattle.std.specs.Bool.{Decides}
use Rattle.std.specs.Int.RustNames.{int_le}
use Rattle.std.proofs.lemmas.Bool.Decides.{Decides-and, nat_tests}
use Rattle.std.proofs.lemmas.Int.{ints}
use Rattle.serde_json.specs.Data.{Data, boolean}
use Rattle.serde_json.specs.Find.{get, as_null}
use Rattle.px.specs.declared.depth.Depth.{Depth}
use Rattle.px.specs.declared.depth.Depth.TheVariants.{Eight, Sixteen}
use Rattle.px.specs.declared.kind.Cfa.{Cfa}
use Rattle.px.specs.declared.kind.Cfa.TheVariants.{Rggb, Bggr, Grbg, Gbrg}
use Rattle.px.specs.declared.view.View.{View}
use Rattle.px.specs.declared.view.BoxSize.{BoxSize}
use Rattle.params.specs.declared.blending.Blend.{Blend}
use Rattle.params.specs.declared.fault.ParamFault.{ParamFault}
use Rattle.params.specs.declared.modules.Module.{Module}
use Rattle.params.specs.declared.modules.Module.TheVariants as modules
use Rattle.params.specs.declared.settings.Params.{Params}
use Rattle.params.specs.Form.{natural, natural_at, natural_or, bool_or, within, only_if}
use Rattle.params.specs.Names.{name_of_module, module_named}
use Rattle.params.specs.Ranges.{IsWithin, IsBlendFit, IsBlendWithin, module_of, newest_of, check_blend_of}
use Rattle.params.specs.Read.{params_of, blend_of}
use Rattle.params.specs.Written.{natural_data, params_data, blend_data}
use Rattle.params.specs.Stated.{null_or}
use Rattle.params.proofs.AgainLemmas.{params_again, blend_again}
use Rattle.params.proofs.NameLemmas.{module_again}
use Rattle.params.proofs.RowAgain.{natural_again}
use Rattle.params.proofs.Faults.{fit_tells}
use Rattle.history.specs.declared.items.Item.{Item}
use Rattle.history.specs.declared.edits.Edit.{Edit}
use Rattle.history.specs.declared.edits.Edit.TheVariants as edits
use Rattle.edit_steps.specs.declared.settings.Settings.{Settings}
use Rattle.edit_steps.specs.declared.step.Step.{Step}
use Rattle.edit_steps.specs.declared.step.Step.TheVariants as steps
use Rattle.edit_steps.specs.Ranges.{IsView, IsBox, IsThumbnailBox, IsSettings, IsEditWithin, IsStepWithin}
use Rattle.edit_script.specs.Parts.{depth_form, cfa_form, sides_form, view_at_keys, view_form}
use Rattle.edit_script.specs.Settings.{settings_at_keys, settings_form}
use Rattle.edit_script.specs.Item.{formed, blend_at, module_at, version_at, params_at, blend_in, item_of, item_at_keys, item_form}
use Rattle.edit_script.specs.Step.{select_form, add_form, move_form, delete_form, export_form, thumbnail_form, set_form, step_form}
use Rattle.edit_script.specs.Written.{cfa_data, depth_data, box_data, box_or_null, view_data, view_or_null, settings_data, module_word, version_data, item_data, set_data, select_data, word_data, placed_data, delete_data, edit_data, view_step_data, export_data, thumbnail_data, step_data}
use Rattle.edit_script.specs.Typed.{IsItemTyped, IsEditTyped, IsStepTyped}
use Rattle.edit_script.proofs.TypedLemmas.{blend_within_at}

-- ---- numbers

int_le-Decides : (a b : ℤ) → Decides (int_le a b) (a ≤ℤ b)
int_le-Decides a b = (λ e. grind (arith, ints), λ h. grind (arith, ints))

in_range : (low high n : ℕ) → low ≤ n → n ≤ high → int_le (pos low) (pos n) && int_le (pos n) (pos high) ≡ true
in_range low high n f g = (Decides-and _ _ (int_le-Decides (pos low) (pos n)) (int_le-Decides (pos n) (pos high))).1 (omega (arith, ints), omega (arith, ints))

pub natural_back : (low high n : ℕ) → low ≤ n → n ≤ high → n < 2 ^ 63 → natural low high (natural_data n) ≡ Some n
natural_back low high n f g h = ap (option_and_then (within low high)) (natural_again n h) ∙ ap (λ b. only_if b n) (in_range low high n f g)

natural_at_back : (key : List ℕ) (low high n : ℕ) (d : Data) → get key d ≡ Some (natural_data n) → low ≤ n → n ≤ high → n < 2 ^ 63 → natural_at key low high d ≡ Some n
natural_at_back key low high n d e f g h = ap (option_and_then (natural low high)) e ∙ natural_back low high n f g h

-- ---- parts

depth_back : (depth : Depth) → depth_form (depth_data depth) ≡ Some depth
depth_back Eight = refl
depth_back Sixteen = refl

cfa_back : (cfa : Option Cfa) → cfa_form (cfa_data cfa) ≡ Some cfa
cfa_back None = refl
cfa_back (Some Rggb) = refl
cfa_back (Some Bggr) = refl
cfa_back (Some Grbg) = refl
cfa_back (Some Gbrg) = refl

pub module_back : (m : Module) → module_named (name_of_module m) ≡ Some m
module_back m = module_again m

sides_back : (longest : ℕ) (b : BoxSize) → 1 ≤ b.w → b.w ≤ longest → 1 ≤ b.h → b.h ≤ longest → longest ≤ 16384 → sides_form longest (box_data b) ≡ Some b
unfolding sides_form
sides_back longest b e f g h k = rw (natural_back 1 longest b.w e f (omega arith), natural_back 1 longest b.h g h (omega arith)) refl

view_chain : (v : View) (a b c e f : Option ℕ) → v.w * v.h ≤ 786432 → a ≡ Some v.factor → b ≡ Some v.cx → c ≡ Some v.cy → e ≡ Some v.w → f ≡ Some v.h
    → option_and_then (λ factor. option_and_then (λ cx. option_and_then (λ cy. option_and_then (λ w. option_and_then (λ h.
    if nat_le (w * h) 786432 then Some (record { factor = factor; cx = cx; cy = cy; w = w; h = h }) else None) f) e) c) b) a ≡ Some v
view_chain v a b c e f small p q r s t =
    let area : nat_le (v.w * v.h) 786432 ≡ true = grind (arith, nat_tests) in
    rw (p, q, r, s, t, area) refl

-- an object that has the keys of a view says it
view_from : (d : Data) (v : View) → IsView v → get (codes "factor") d ≡ Some (natural_data v.factor) → get (codes "cx") d ≡ Some (natural_data v.cx) → get (codes "cy") d ≡ Some (natural_data v.cy)
    → get (codes "w") d ≡ Some (natural_data v.w) → get (codes "h") d ≡ Some (natural_data v.h) → view_at_keys d ≡ Some v
unfolding view_at_keys
view_from d v h a b c e f =
    view_chain v (natural_at (codes "factor") 1 64 d) (natural_at (codes "cx") 0 65536 d) (natural_at (codes "cy") 0 65536 d) (natural_at (codes "w") 1 16384 d) (natural_at (codes "h") 1 16384 d) h.small
    (natural_at_back (codes "factor") 1 64 v.factor d a h.some_factor h.small_factor (omega (arith, h.small_factor)))
    (natural_at_back (codes "cx") 0 65536 v.cx d b (omega arith) h.across (omega (arith, h.across)))
    (natural_at_back (codes "cy") 0 65536 v.cy d c (omega arith) h.down (omega (arith, h.down)))
    (natural_at_back (codes "w") 1 16384 v.w d e h.wide h.not_too_wide (omega (arith, h.not_too_wide)))
    (natural_at_back (codes "h") 1 16384 v.h d f h.high h.not_too_high (omega (arith, h.not_too_high)))

view_there : (v : View) → is_some (as_null (view_data v)) ≡ false
unfolding view_data
view_there v = refl

view_back : (v : View) → IsView v → view_form (view_data v) ≡ Some v
unfolding view_data
view_back v h = view_from (view_data v) v h refl refl refl refl refl

second_back : (o : Option View) → IfSome o IsView → null_or view_form (view_or_null o) ≡ Some o
second_back None h = refl
second_back (Some v) h =
    let there : is_some (as_null (view_data v)) ≡ false = view_there v in
    rw (there, view_back v h) refl

pub settings_back : (s : Settings) → IsSettings s → settings_form (settings_data s) ≡ Some s
unfolding settings_at_keys settings_data
settings_back s h =
    rw (
      cfa_back s.cfa,
      depth_back s.depth,
      natural_back 64 720 s.preview_side h.some_side h.small_side (omega (arith, h.small_side)),
      natural_back 1 4 s.workers h.some_workers h.few_workers (omega (arith, h.few_workers)),
      natural_back 1 64 s.stage_entries h.some_entries h.few_entries (omega (arith, h.few_entries)),
      natural_back 0 33554432 s.stage_pixels (omega arith) h.few_pixels (omega (arith, h.few_pixels)),
      natural_back 1 4 s.mip_slots h.some_slots h.few_slots (omega (arith, h.few_slots)),
      natural_back 1 64 s.undo_depth h.some_undo h.small_undo (omega (arith, h.small_undo)),
      view_back s.view h.view,
      second_back s.second h.second,
    ) refl

-- ---- items

params_formed : (p : Params) → IsWithin p → formed (params_of (module_of p) (newest_of (module_of p)) (params_data p)) ≡ Some (Ok p)
params_formed p h = ap formed (params_again p h)

blend_formed : (o : Option Blend) → IfSome o IsBlendWithin → formed (blend_of (blend_data o)) ≡ Some (Ok o)
blend_formed o h = ap formed (blend_again o h)

fit_at : (m : Module) (o : Option Blend) → IsBlendFit m o → blend_at m (Ok o) ≡ Ok o
fit_at m None h = refl
fit_at m (Some b) h = let yes = h.0 in rw yes refl

blend_at_back : (m : Module) (o : Option Blend) → check_blend_of m o ≡ Ok tt → blend_at m (Ok o) ≡ Ok o
blend_at_back m o e = fit_at m o ((fit_tells m o (check_blend_of m o) refl).0 (rw e refl))

item_of_back : (i : Item) → check_blend_of (module_of i.params) i.blend ≡ Ok tt → item_of (module_of i.params) i.instance i.enabled (Ok i.params) (Ok i.blend) ≡ Ok i
item_of_back i e = rw (blend_at_back (module_of i.params) i.blend e) refl

item_chain : (i : Item) (d : Data) (a : Option Module) (b : Option ℕ) (c : Option Bool) (v : Option ℕ) (f : Option (Result (Option Blend) ParamFault)) → IsItemTyped i
    → a ≡ Some (module_of i.params) → b ≡ Some i.instance → c ≡ Some i.enabled → v ≡ Some (newest_of (module_of i.params)) → params_at (module_of i.params) (newest_of (module_of i.params)) d ≡ Some (Ok i.params) → f ≡ Some (Ok i.blend)
    → option_and_then (λ m. option_and_then (λ instance. option_and_then (λ enabled. option_and_then (λ version. option_and_then (λ params. option_and_then (λ blend. Some (item_of m instance enabled params blend)) f) (params_at m version d)) v) c) b) a ≡ Some (Ok i)
item_chain i d a b c v f h p q r u s t = rw (p, q, r, u, s, t) (ap Some (item_of_back i h.blend))

-- the version that is written is read again
version_back : (m : Module) → natural 0 255 (natural_data (newest_of m)) ≡ Some (newest_of m)
version_back modules.RawPrepare = refl
version_back _ = refl

-- an object that has the keys of an item says it
item_from : (d : Data) (i : Item) → IsItemTyped i → get (codes "module") d ≡ Some (module_word (module_of i.params)) → get (codes "instance") d ≡ Some (natural_data i.instance)
    → get (codes "enabled") d ≡ Some (boolean i.enabled) → get (codes "params") d ≡ Some (params_data i.params) → get (codes "blend") d ≡ Some (blend_data i.blend) → get (codes "version") d ≡ Some (version_data i) → item_at_keys d ≡ Some (Ok i)
unfolding item_at_keys
item_from d i h a b c e f g =
    let at_module : module_at d ≡ Some (module_of i.params) = rw a (module_back (module_of i.params)) in
    let at_instance : natural_or (codes "instance") 0 0 255 d ≡ Some i.instance = rw b (natural_back 0 255 i.instance (omega arith) h.instance (omega (arith, h.instance))) in
    let at_enabled : bool_or (codes "enabled") true d ≡ Some i.enabled = rw c refl in
    let at_version : version_at d ≡ Some (newest_of (module_of i.params)) = rw g (version_back (module_of i.params)) in
    let at_params : params_at (module_of i.params) (newest_of (module_of i.params)) d ≡ Some (Ok i.params) = rw e (params_formed i.params h.params) in
    let at_blend : blend_in d ≡ Some (Ok i.blend) = rw f (blend_formed i.blend (blend_within_at (module_of i.params) i.blend h.blend)) in
    item_chain i d (module_at d) (natural_or (codes "instance") 0 0 255 d) (bool_or (codes "enabled") true d) (version_at d) (blend_in d) h at_module at_instance at_enabled at_version at_params at_blend

pub item_back : (i : Item) → IsItemTyped i → item_form (item_data i) ≡ Some (Ok i)
unfolding item_data
item_back i h = item_from (item_data i) i h refl refl refl refl refl refl

set_back : (i : Item) → IsItemTyped i → step_form (set_data i) ≡ Some (Ok (steps.Edit (edits.Set i)))
unfolding step_form set_form set_data
set_back i h = rw (item_from (set_data i) i h refl refl refl refl refl refl) refl

-- ---- steps

select_back : (end : ℕ) → end ≤ 65535 → step_form (select_data end) ≡ Some (Ok (steps.Edit (edits.Select end)))
unfolding step_form select_form select_data
select_back end h = rw (natural_back 0 65535 end (omega arith) h (omega arith)) refl

compress_back : step_form (word_data (codes "compress")) ≡ Some (Ok (steps.Edit edits.Compress))
unfolding step_form word_data
compress_back = refl

undo_back : step_form (word_data (codes "undo")) ≡ Some (Ok steps.Undo)
unfolding step_form word_data
undo_back = refl

redo_back : step_form (word_data (codes "redo")) ≡ Some (Ok steps.Redo)
unfolding step_form word_data
redo_back = refl

settle_back : step_form (word_data (codes "settle")) ≡ Some (Ok steps.Settle)
unfolding step_form word_data
settle_back = refl

add_back : (m : Module) (instance place : ℕ) → instance ≤ 255 → place ≤ 65535 → step_form (placed_data (codes "add") m instance place) ≡ Some (Ok (steps.Edit (edits.Add m instance place)))
unfolding step_form add_form placed_data
add_back m instance place g h = rw (module_back m, natural_back 0 255 instance (omega arith) g (omega arith), natural_back 0 65535 place (omega arith) h (omega arith)) refl

move_back : (m : Module) (instance place : ℕ) → instance ≤ 255 → place ≤ 65535 → step_form (placed_data (codes "move") m instance place) ≡ Some (Ok (steps.Edit (edits.Move m instance place)))
unfolding step_form move_form placed_data
move_back m instance place g h = rw (module_back m, natural_back 0 255 instance (omega arith) g (omega arith), natural_back 0 65535 place (omega arith) h (omega arith)) refl

delete_back : (m : Module) (instance : ℕ) → instance ≤ 255 → step_form (delete_data m instance) ≡ Some (Ok (steps.Edit (edits.Delete m instance)))
unfolding step_form delete_form delete_data
delete_back m instance g = rw (module_back m, natural_back 0 255 instance (omega arith) g (omega arith)) refl

view_step_back : (v : View) → IsView v → step_form (view_step_data (codes "view") v) ≡ Some (Ok (steps.View v))
unfolding step_form view_step_data
view_step_back v h = rw (view_from (view_step_data (codes "view") v) v h refl refl refl refl refl) refl

second_step_back : (v : View) → IsView v → step_form (view_step_data (codes "second") v) ≡ Some (Ok (steps.Second v))
unfolding step_form view_step_data
second_step_back v h = rw (view_from (view_step_data (codes "second") v) v h refl refl refl refl refl) refl

box_back : (size : Option BoxSize) → IfSome size IsBox → null_or (sides_form 16384) (box_or_null size) ≡ Some size
box_back None h = refl
box_back (Some b) h = rw (sides_back 16384 b h.wide h.not_too_wide h.high h.not_too_high (omega arith)) refl

export_back : (size : Option BoxSize) (depth : Depth) → IfSome size IsBox → step_form (export_data size depth) ≡ Some (Ok (steps.Export size depth))
unfolding step_form export_form export_data
export_back size depth h = rw (box_back size h, depth_back depth) refl

thumbnail_back : (b : BoxSize) → IsThumbnailBox b → step_form (thumbnail_data b) ≡ Some (Ok (steps.Thumbnail b))
unfolding step_form thumbnail_form thumbnail_data
thumbnail_back b h = rw (sides_back 720 b h.wide h.not_too_wide h.high h.not_too_high (omega arith)) refl

edit_back : (e : Edit) → IsEditWithin e → IsEditTyped e → step_form (edit_data e) ≡ Some (Ok (steps.Edit e))
edit_back (edits.Set item) h t = set_back item t
edit_back (edits.Select end) h t = select_back end h
edit_back edits.Compress h t = compress_back
edit_back (edits.Add m instance place) h t = add_back m instance place t h
edit_back (edits.Delete m instance) h t = delete_back m instance t
edit_back (edits.Move m instance place) h t = move_back m instance place t h

-- what is written for a step is read as the step
pub step_back : (s : Step) → IsStepWithin s → IsStepTyped s → step_form (step_data s) ≡ Some (Ok s)
step_back (steps.Edit edit) h t = edit_back edit h t
step_back steps.Undo h t = undo_back
step_back steps.Redo h t = redo_back
step_back (steps.View view) h t = view_step_back view h
step_back (steps.Second view) h t = second_step_back view h
step_back (steps.Export size depth) h t = export_back size depth h
step_back (steps.Thumbnail size) h t = thumbnail_back size h
step_back steps.Settle h t = settle_back
