-- The values of the steps are within their ranges.
use Rattle.std.proofs.Common.{◌≡◌, ℕ, ◌+◌, ◌%◌, ◌<◌, ◌≤◌, Bool, Option, Some, None, Result, Ok, Err, IsOk, refl, ap, ◌∙◌, arith}
use Rattle.std.specs.Option.{option_or, option_map}
use Rattle.std.specs.Result.{result_err}
use Rattle.std.proofs.lemmas.Int.{ints}
use Rattle.std.specs.List.{All, AllByRecursion}
use Rattle.std.proofs.lemmas.List.Elements.{All-from_recursion}
use Rattle.params.specs.declared.blending.Blend.{Blend}
use Rattle.params.specs.declared.settings.Params.{Params}
use Rattle.params.specs.Names.{last_number}
use Rattle.params.specs.Rules.{IsKept}
use Rattle.params.specs.Ranges.{check_of, check_blend_of, entries_of, module_of, stated_blend}
use Rattle.params.specs.Stated.{blend_entries}
use Rattle.params.proofs.Faults.{none_at_fault}
use Rattle.module_order.specs.declared.slots.Slot.{Slot}
use Rattle.module_order.specs.Faults.{unless}
use Rattle.module_order.specs.Slot.{start_slots}
use Rattle.history.specs.declared.items.Item.{Item}
use Rattle.history.specs.declared.fault.EditFault.TheVariants.{BadParams}
use Rattle.history.specs.Faults.{item_fault}
use Rattle.edit_steps.specs.Ranges.{IsOpening, IsStepWithin}
use Rattle.generator.specs.Script.{set_step, exposure_of, mixer_of, crop_of, blend_of, orientation_of, raw_params, temperature_params, opening_items, gen_opening}

-- ---- settings without a fault

no_fault : (p : Params) → AllByRecursion IsKept (entries_of p) → check_of p ≡ Ok tt
no_fault p kept = none_at_fault (entries_of p) (record { kept = kept })

exposure_checked : (gain : ℕ) → gain ≤ 65536 → check_of (exposure_of gain) ≡ Ok tt
exposure_checked gain h = no_fault (exposure_of gain) ((omega (arith, ints), omega (arith, ints)), ((omega (arith, ints), omega (arith, ints)), ((omega (arith, ints), omega (arith, ints)), tt)))

mixer_checked : (green : ℕ) → green ≤ 32768 → check_of (mixer_of green) ≡ Ok tt
mixer_checked green h = no_fault (mixer_of green) ((omega (arith, ints), omega (arith, ints)), ((omega (arith, ints), omega (arith, ints)), ((omega (arith, ints), omega (arith, ints)), ((omega (arith, ints), omega (arith, ints)), ((omega (arith, ints), omega (arith, ints)), ((omega (arith, ints), omega (arith, ints)), ((omega (arith, ints), omega (arith, ints)), ((omega (arith, ints), omega (arith, ints)), ((omega (arith, ints), omega (arith, ints)), tt)))))))))

crop_checked : (v : ℕ) → check_of (crop_of v) ≡ Ok tt
crop_checked v =
    let left : v % 16384 < 16384 = omega arith in
    let right : v % 8192 < 8192 = omega arith in
    no_fault (crop_of v) ((omega (arith, ints), omega (arith, ints)), ((omega (arith, ints), omega (arith, ints)), ((omega (arith, ints), omega (arith, ints)), (omega (arith, ints), ((omega (arith, ints), omega (arith, ints)), (omega (arith, ints), tt))))))

orientation_checked : (swap : Bool) → check_of (orientation_of swap) ≡ Ok tt
orientation_checked swap = no_fault (orientation_of swap) tt

blend_checked : (v : ℕ) → check_blend_of (module_of (exposure_of 8192)) (Some (blend_of v)) ≡ Ok tt
blend_checked v =
    let opacity : v % 65537 < 65537 = omega arith in
    let axis : v % 300 < 300 = omega arith in
    none_at_fault (blend_entries (stated_blend (blend_of v))) (record { kept = ((omega (arith, ints), omega (arith, ints)), ((omega (arith, ints), omega (arith, ints)), ((omega (arith, ints), omega (arith, ints)), ((omega (arith, ints), omega (arith, ints)), ((omega (arith, ints), omega (arith, ints)), (λ o. cc, ((omega (arith, ints), omega (arith, ints)), ((omega (arith, ints), omega (arith, ints)), ((omega (arith, ints), omega (arith, ints)), tt))))))))) })

-- ---- steps

set_within : (p : Params) (blend : Option Blend) → check_of p ≡ Ok tt → check_blend_of (module_of p) blend ≡ Ok tt → IsStepWithin (set_step p blend)
set_within p blend h k = ap (λ r. option_or (result_err r) (result_err (check_blend_of (module_of p) blend))) h ∙ ap result_err k

pub exposure_within : (v : ℕ) → IsStepWithin (set_step (exposure_of (2048 + v % 4096)) None)
exposure_within v = let small : v % 4096 < 4096 = omega arith in set_within (exposure_of (2048 + v % 4096)) None (exposure_checked (2048 + v % 4096) (omega arith)) refl

pub mixer_within : (v : ℕ) → IsStepWithin (set_step (mixer_of (v % 2048)) None)
mixer_within v = let small : v % 2048 < 2048 = omega arith in set_within (mixer_of (v % 2048)) None (mixer_checked (v % 2048) (omega arith)) refl

pub crop_within : (v : ℕ) → IsStepWithin (set_step (crop_of v) None)
crop_within v = set_within (crop_of v) None (crop_checked v) refl

pub blend_within : (v : ℕ) → IsStepWithin (set_step (exposure_of 8192) (Some (blend_of v)))
blend_within v = set_within (exposure_of 8192) (Some (blend_of v)) (exposure_checked 8192 (omega arith)) (blend_checked v)

pub orientation_within : (swap : Bool) → IsStepWithin (set_step (orientation_of swap) None)
orientation_within swap = set_within (orientation_of swap) None (orientation_checked swap) refl

-- ---- the opening history

raw_checked : check_of raw_params ≡ Ok tt
raw_checked = no_fault raw_params ((omega (arith, ints), omega (arith, ints)), ((omega (arith, ints), omega (arith, ints)), ((omega (arith, ints), omega (arith, ints)), ((omega (arith, ints), omega (arith, ints)), (omega (arith, ints), (omega (arith, ints), (omega (arith, ints), tt)))))))

temperature_checked : check_of temperature_params ≡ Ok tt
temperature_checked = no_fault temperature_params ((omega (arith, ints), omega (arith, ints)), ((omega (arith, ints), omega (arith, ints)), ((omega (arith, ints), omega (arith, ints)), tt)))

item_allowed : (p : Params) → check_of p ≡ Ok tt → IsStepWithin (set_step p None)
item_allowed p h = set_within p None h refl

opening_allowed : All (λ (item : Item). item_fault start_slots item ≡ None) opening_items
opening_allowed = All-from_recursion (λ (item : Item). item_fault start_slots item ≡ None) opening_items
    (ap (option_map BadParams) (item_allowed raw_params raw_checked), (ap (option_map BadParams) (item_allowed temperature_params temperature_checked), tt))

opening_modules : All (λ (s : Slot). s.module ≤ last_number) start_slots
opening_modules = All-from_recursion (λ (s : Slot). s.module ≤ last_number) start_slots (omega arith, (omega arith, (omega arith, (omega arith, (omega arith, (omega arith, (omega arith, (omega arith, tt))))))))

pub IsOpening-gen : IsOpening gen_opening
IsOpening-gen = record { history = record { items = opening_allowed; end = omega arith }; few = omega arith; modules = opening_modules }

-- ---- what the history's maker answers

pub unless_ok : {X E : Type 0} (fault : Option E) (x y : X) → unless fault x ≡ Ok y → y ≡ x
unless_ok None x y e = cc
unless_ok (Some f) x y e = cc

pub not_err : {X E : Type 0} (f : E) (r : Result X E) → r ≡ Err f → IsOk r → ⊥
not_err f (Ok x) e h = cc
not_err f (Err g) e h = cc
