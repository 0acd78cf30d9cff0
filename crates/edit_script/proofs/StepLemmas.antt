-- The numbers of steps that are read are within their ranges.
use Rattle.std.proofs.Common.{◌≡◌, ℕ, ◌≤◌, Bool, true, false, List, [], ◌∷◌, Option, Some, None, option_map, Result, Ok, Err, IfSome, IfOk, refl, ap, ◌∙◌, codes}
use Rattle.std.specs.Prelude.{if◌then◌else◌, bytes_eq, is_some}
use Rattle.std.specs.Option.{option_or}
use Rattle.std.specs.Result.{result_err}
use Rattle.serde_json.specs.Data.{Data}
use Rattle.serde_json.specs.Find.{get, as_null}
use Rattle.px.specs.declared.depth.Depth.{Depth}
use Rattle.px.specs.declared.depth.Depth.TheVariants.{Eight}
use Rattle.px.specs.declared.view.BoxSize.{BoxSize}
use Rattle.params.specs.declared.blending.Blend.{Blend}
use Rattle.params.specs.declared.fault.ParamFault.{ParamFault}
use Rattle.params.specs.declared.fault.JsonEnd.{JsonEnd}
use Rattle.params.specs.declared.fault.JsonEnd.TheVariants as ends
use Rattle.params.specs.declared.modules.Module.{Module}
use Rattle.params.specs.declared.settings.Params.{Params}
use Rattle.params.specs.declared.settings.Params.TheVariants as params
use Rattle.params.specs.Form.{has_only, natural_at, natural_or, bool_or, or_absent, text_at, ◌>>=◌}
use Rattle.params.specs.Rules.{first_fault}
use Rattle.params.specs.Ranges.{IsWithin, IsBlendWithin, module_of, check_of, check_blend_of, blends, blend_fault, entries_of, stated_blend}
use Rattle.params.specs.Read.{params_of, blend_of}
use Rattle.params.specs.Stated.{null_or, blend_entries}
use Rattle.params.proofs.Faults.{none_at_fault}
use Rattle.params.proofs.WithinLemmas.{params_read_within, blend_read_within}
use Rattle.history.specs.declared.items.Item.{Item}
use Rattle.history.specs.declared.edits.Edit.TheVariants as edits
use Rattle.history.specs.Faults.{values_fault}
use Rattle.edit_steps.specs.declared.step.Step.{Step}
use Rattle.edit_steps.specs.declared.step.Step.TheVariants as steps
use Rattle.edit_steps.specs.Ranges.{IsBox, IsThumbnailBox, IsStepWithin}
use Rattle.edit_script.specs.Binds.{result_and_then}
use Rattle.edit_script.specs.Parts.{depth_form, sides_form, view_keys, view_at_keys}
use Rattle.edit_script.specs.Item.{formed, module_at, item_keys, blend_at, item_of, version_at, params_at, blend_in, item_at_keys}
use Rattle.edit_script.specs.Step.{if_step, select_form, compress_form, undo_form, redo_form, settle_form, instance_at, place_at, add_form, move_form, delete_form, view_step_form, second_step_form, export_form, thumbnail_form, plain_form, set_of, set_form, step_named, step_form}
use Rattle.edit_script.proofs.RangeLemmas.{bound, only_some, mapped, Between, natural_at_between, or_absent_within, view_keys_within, AreSides, sides_within}

-- ---- values

no_fault : (p : Params) → IsWithin p → check_of p ≡ Ok tt
no_fault p h = none_at_fault (entries_of p) (record { kept = h.kept })

-- values of a module that are within their ranges
abbrev IsOf : Module → Params → Type 0
IsOf m p = IsWithin p × (module_of p ≡ m)

-- a blend that is within its ranges
abbrev IsBlend : Option Blend → Type 0
IsBlend o = IfSome o IsBlendWithin

-- what holds of each value that is read holds of what has the form
formed_within : {A : Type 0} (P : A → Type 0) (r : Result A JsonEnd) → ((x : A) → r ≡ Ok x → P x) → IfSome (formed r) (λ s. IfOk s P)
formed_within P (Ok x) h = h x refl
formed_within P (Err ends.Form) h = tt
formed_within P (Err (ends.Param f)) h = tt
formed_within P (Err ends.Memory) h = tt

params_within : (m : Module) (version : ℕ) (d : Data) → IfSome (params_at m version d) (λ r. IfOk r (IsOf m))
params_within m version d = bound (λ r. IfOk r (IsOf m)) (get (codes "params") d) (λ v. formed (params_of m version v)) (λ v e. formed_within (IsOf m) (params_of m version v) (params_read_within m version v))

blend_within : (d : Data) → IfSome (blend_in d) (λ r. IfOk r IsBlend)
blend_within d = or_absent_within (λ r. IfOk r IsBlend) (Ok None) (λ v. formed (blend_of v)) (get (codes "blend") d) tt (λ v. formed_within IsBlend (blend_of v) (blend_read_within v))

fit_case : (b : Bool) (m : Module) (x : Blend) → blends m ≡ b → IsBlendWithin x → IfOk (if b then Ok (Some x) else Err blend_fault) (λ o. check_blend_of m o ≡ Ok tt)
fit_case true m x e h = ap (λ b. if b then first_fault (blend_entries (stated_blend x)) else Err blend_fault) e ∙ none_at_fault (blend_entries (stated_blend x)) (record { kept = h.kept })
fit_case false m x e h = tt

err_case : (b : Bool) (P : Option Blend → Type 0) (f : ParamFault) → IfOk (if b then Err f else Err blend_fault) P
err_case true P f = tt
err_case false P f = tt

-- the blend of a module has no fault there
blend_fits : (m : Module) (r : Result (Option Blend) ParamFault) → IfOk r IsBlend → IfOk (blend_at m r) (λ o. check_blend_of m o ≡ Ok tt)
blend_fits m (Ok None) h = refl
blend_fits m (Ok (Some x)) h = fit_case (blends m) m x refl h
blend_fits m (Err f) h = err_case (blends m) _ f

-- no value of the item is outside its range
abbrev pub IsItem : Item → Type 0
IsItem item = values_fault item ≡ None

item_case : (instance : ℕ) (enabled : Bool) (m : Module) (p : Params) (r : Result (Option Blend) ParamFault) → IsOf m p → IfOk r (λ o. check_blend_of m o ≡ Ok tt)
    → IfOk (result_and_then (λ b. Ok (record { instance = instance; enabled = enabled; params = p; blend = b })) r) IsItem
item_case instance enabled m p (Ok o) h fit =
    let own : check_of p ≡ Ok tt = no_fault p h.0 in
    let at : check_blend_of (module_of p) o ≡ Ok tt = ap (λ k. check_blend_of k o) h.1 ∙ fit in
    ap (λ r. option_or (result_err r) (result_err (check_blend_of (module_of p) o))) own ∙ ap result_err at
item_case instance enabled m p (Err f) h fit = tt

item_within : (m : Module) (instance : ℕ) (enabled : Bool) (values : Result Params ParamFault) (blend : Result (Option Blend) ParamFault)
    → IfOk values (IsOf m) → IfOk blend IsBlend → IfOk (item_of m instance enabled values blend) IsItem
item_within m instance enabled (Ok p) blend h k = item_case instance enabled m p (blend_at m blend) h (blend_fits m blend k)
item_within m instance enabled (Err f) blend h k = tt

abbrev pub IsRead : Result Item ParamFault → Type 0
IsRead r = IfOk r IsItem

blend_case : (m : Module) (instance : ℕ) (enabled : Bool) (values : Result Params ParamFault) (f : Option (Result (Option Blend) ParamFault)) → IfOk values (IsOf m) → IfSome f (λ r. IfOk r IsBlend)
    → IfSome (f >>= λ blend. Some (item_of m instance enabled values blend)) IsRead
blend_case m instance enabled values None h k = tt
blend_case m instance enabled values (Some blend) h k = item_within m instance enabled values blend h k

values_case : (m : Module) (instance : ℕ) (enabled : Bool) (e : Option (Result Params ParamFault)) (f : Option (Result (Option Blend) ParamFault))
    → IfSome e (λ r. IfOk r (IsOf m)) → IfSome f (λ r. IfOk r IsBlend)
    → IfSome (e >>= λ values. f >>= λ blend. Some (item_of m instance enabled values blend)) IsRead
values_case m instance enabled None f h k = tt
values_case m instance enabled (Some values) f h k = blend_case m instance enabled values f h k

keys_case : (d : Data) (a : Option Module) (b : Option ℕ) (c : Option Bool) (v : Option ℕ)
    → IfSome (a >>= λ m. b >>= λ instance. c >>= λ enabled. v >>= λ version. params_at m version d >>= λ values. blend_in d >>= λ blend. Some (item_of m instance enabled values blend)) IsRead
keys_case d None b c v = tt
keys_case d (Some m) None c v = tt
keys_case d (Some m) (Some instance) None v = tt
keys_case d (Some m) (Some instance) (Some enabled) None = tt
keys_case d (Some m) (Some instance) (Some enabled) (Some version) = values_case m instance enabled (params_at m version d) (blend_in d) (params_within m version d) (blend_within d)

pub item_keys_within : (d : Data) → IfSome (item_at_keys d) IsRead
unfolding item_at_keys
item_keys_within d = keys_case d (module_at d) (natural_or (codes "instance") 0 0 255 d) (bool_or (codes "enabled") true d) (version_at d)

-- ---- steps

plain_one : (keys : List (List ℕ)) (d : Data) (o : Option Step) → IfSome o IsStepWithin → IfSome (if_step keys d o) IsStepWithin
plain_one keys d o h = only_some IsStepWithin (has_only (codes "do" ∷ keys) d) o h

select_case : (end : Option ℕ) → IfSome end (Between 0 65535) → IfSome (end >>= λ end. Some (steps.Edit (edits.Select end))) IsStepWithin
select_case None h = tt
select_case (Some end) h = h.1

select_within : (d : Data) → IfSome (select_form d) IsStepWithin
unfolding select_form
select_within d = plain_one (codes "end" ∷ []) d _ (select_case (natural_at (codes "end") 0 65535 d) (natural_at_between (codes "end") 0 65535 d))

-- a step that puts an instance at a place
placed_case : (make : Module → ℕ → ℕ → Step) → ((m : Module) (i p : ℕ) → p ≤ 65535 → IsStepWithin (make m i p)) → (m : Option Module) (instance place : Option ℕ) → IfSome place (Between 0 65535)
    → IfSome (m >>= λ m. instance >>= λ instance. place >>= λ place. Some (make m instance place)) IsStepWithin
placed_case make each None instance place h = tt
placed_case make each (Some m) None place h = tt
placed_case make each (Some m) (Some instance) None h = tt
placed_case make each (Some m) (Some instance) (Some place) h = each m instance place h.1

place_between : (d : Data) → IfSome (place_at d) (Between 0 65535)
place_between d = natural_at_between (codes "place") 0 65535 d

placed_keys : List (List ℕ)
placed_keys = codes "module" ∷ codes "instance" ∷ codes "place" ∷ []

add_within : (d : Data) → IfSome (add_form d) IsStepWithin
unfolding add_form placed_keys
add_within d = plain_one placed_keys d _ (placed_case (λ m i p. steps.Edit (edits.Add m i p)) (λ m i p h. h) (module_at d) (instance_at d) (place_at d) (place_between d))

move_within : (d : Data) → IfSome (move_form d) IsStepWithin
unfolding move_form placed_keys
move_within d = plain_one placed_keys d _ (placed_case (λ m i p. steps.Edit (edits.Move m i p)) (λ m i p h. h) (module_at d) (instance_at d) (place_at d) (place_between d))

delete_case : (m : Option Module) (instance : Option ℕ) → IfSome (m >>= λ m. instance >>= λ instance. Some (steps.Edit (edits.Delete m instance))) IsStepWithin
delete_case None instance = tt
delete_case (Some m) None = tt
delete_case (Some m) (Some instance) = tt

delete_within : (d : Data) → IfSome (delete_form d) IsStepWithin
unfolding delete_form
delete_within d = plain_one (codes "module" ∷ codes "instance" ∷ []) d _ (delete_case (module_at d) (instance_at d))

view_within : (d : Data) → IfSome (view_step_form d) IsStepWithin
view_within d = plain_one view_keys d (option_map steps.View (view_at_keys d)) (mapped IsStepWithin steps.View (view_at_keys d) (view_keys_within d))

second_within : (d : Data) → IfSome (second_step_form d) IsStepWithin
second_within d = plain_one view_keys d (option_map steps.Second (view_at_keys d)) (mapped IsStepWithin steps.Second (view_at_keys d) (view_keys_within d))

box_within : (b : BoxSize) → AreSides 16384 b → IsBox b
box_within b h = record { wide = h.wide.0; not_too_wide = h.wide.1; high = h.high.0; not_too_high = h.high.1 }

thumbnail_box_within : (b : BoxSize) → AreSides 720 b → IsThumbnailBox b
thumbnail_box_within b h = record { wide = h.wide.0; not_too_wide = h.wide.1; high = h.high.0; not_too_high = h.high.1 }

abbrev IsBoxOrNone : Option BoxSize → Type 0
IsBoxOrNone o = IfSome o IsBox

some_case : (o : Option BoxSize) → IfSome o (AreSides 16384) → IfSome (option_map Some o) IsBoxOrNone
some_case None h = tt
some_case (Some b) h = box_within b h

null_case : (b : Bool) (o : Option BoxSize) → IfSome o (AreSides 16384) → IfSome (if b then Some None else option_map Some o) IsBoxOrNone
null_case true o h = tt
null_case false o h = some_case o h

export_case : (size : Option (Option BoxSize)) (depth : Option Depth) → IfSome size IsBoxOrNone → IfSome (size >>= λ size. depth >>= λ depth. Some (steps.Export size depth)) IsStepWithin
export_case None depth h = tt
export_case (Some size) None h = tt
export_case (Some size) (Some depth) h = h

export_within : (d : Data) → IfSome (export_form d) IsStepWithin
unfolding export_form
export_within d = plain_one (codes "box" ∷ codes "depth" ∷ []) d _
    (export_case (or_absent None (null_or (sides_form 16384)) (get (codes "box") d)) (or_absent Eight depth_form (get (codes "depth") d))
    (or_absent_within IsBoxOrNone None (null_or (sides_form 16384)) (get (codes "box") d) tt (λ v. null_case (is_some (as_null v)) (sides_form 16384 v) (sides_within 16384 v))))

sides_case : (o : Option BoxSize) → IfSome o (AreSides 720) → IfSome (o >>= λ size. Some (steps.Thumbnail size)) IsStepWithin
sides_case None h = tt
sides_case (Some size) h = thumbnail_box_within size h

thumbnail_case : (o : Option Data) → IfSome (o >>= λ value. sides_form 720 value >>= λ size. Some (steps.Thumbnail size)) IsStepWithin
thumbnail_case None = tt
thumbnail_case (Some value) = sides_case (sides_form 720 value) (sides_within 720 value)

thumbnail_within : (d : Data) → IfSome (thumbnail_form d) IsStepWithin
unfolding thumbnail_form
thumbnail_within d = plain_one (codes "box" ∷ []) d _ (thumbnail_case (get (codes "box") d))

either : {A : Type 0} (P : A → Type 0) (b : Bool) (o p : Option A) → IfSome o P → IfSome p P → IfSome (if b then o else p) P
either P true o p h k = h
either P false o p h k = k

plain_within : (word : List ℕ) (d : Data) → IfSome (plain_form word d) IsStepWithin
plain_within word d =
    either IsStepWithin (bytes_eq word (codes "select")) (select_form d) _ (select_within d)
    (either IsStepWithin (bytes_eq word (codes "compress")) (compress_form d) _ (plain_one [] d (Some (steps.Edit edits.Compress)) tt)
    (either IsStepWithin (bytes_eq word (codes "undo")) (undo_form d) _ (plain_one [] d (Some steps.Undo) tt)
    (either IsStepWithin (bytes_eq word (codes "redo")) (redo_form d) _ (plain_one [] d (Some steps.Redo) tt)
    (either IsStepWithin (bytes_eq word (codes "settle")) (settle_form d) _ (plain_one [] d (Some steps.Settle) tt)
    (either IsStepWithin (bytes_eq word (codes "add")) (add_form d) _ (add_within d)
    (either IsStepWithin (bytes_eq word (codes "move")) (move_form d) _ (move_within d)
    (either IsStepWithin (bytes_eq word (codes "delete")) (delete_form d) _ (delete_within d)
    (either IsStepWithin (bytes_eq word (codes "view")) (view_step_form d) _ (view_within d)
    (either IsStepWithin (bytes_eq word (codes "second")) (second_step_form d) _ (second_within d)
    (either IsStepWithin (bytes_eq word (codes "export")) (export_form d) _ (export_within d)
    (either IsStepWithin (bytes_eq word (codes "thumbnail")) (thumbnail_form d) None (thumbnail_within d) tt)))))))))))

-- the step, where no number is outside its range, is within
abbrev pub IsWithinOnOk : Result Step ParamFault → Type 0
IsWithinOnOk r = IfOk r IsStepWithin

set_case : (r : Result Item ParamFault) → IsRead r → IsWithinOnOk (set_of r)
set_case (Ok i) h = h
set_case (Err f) h = tt

set_some : (o : Option (Result Item ParamFault)) → IfSome o IsRead → IfSome (option_map set_of o) IsWithinOnOk
set_some None h = tt
set_some (Some r) h = set_case r h

set_within : (d : Data) → IfSome (set_form d) IsWithinOnOk
unfolding set_form
set_within d = only_some IsWithinOnOk (has_only (codes "do" ∷ item_keys) d) (option_map set_of (item_at_keys d)) (set_some (item_at_keys d) (item_keys_within d))

plain_some : (o : Option Step) → IfSome o IsStepWithin → IfSome (option_map (λ s. Ok s) o) IsWithinOnOk
plain_some None h = tt
plain_some (Some s) h = h

pub step_within : (d : Data) → IfSome (step_form d) IsWithinOnOk
unfolding step_form
step_within d = bound IsWithinOnOk (text_at (codes "do") d) (step_named d) (λ word e.
    either IsWithinOnOk (bytes_eq word (codes "set")) (set_form d) (option_map (λ s. Ok s) (plain_form word d)) (set_within d) (plain_some (plain_form word d) (plain_within word d)))
