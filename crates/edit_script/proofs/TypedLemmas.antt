-- Items without fault, as the writer needs them.
use Rattle.std.proofs.Common.{◌≡◌, Option, Some, None, Result, Ok, Err, IfSome, refl}
use Rattle.std.specs.Prelude.{slice_index_or}
use Rattle.std.specs.Bool.{⊤}
use Rattle.std.specs.List.{All}
use Rattle.std.specs.Option.{option_or}
use Rattle.std.specs.Result.{result_err}
use Rattle.params.specs.declared.blending.Blend.{Blend}
use Rattle.params.specs.declared.fault.ParamFault.{ParamFault}
use Rattle.params.specs.declared.modules.Module.{Module}
use Rattle.params.specs.Ranges.{IsBlendFit, IsBlendWithin, module_of, check_of, check_blend_of}
use Rattle.params.proofs.Faults.{fit_tells}
use Rattle.history.specs.declared.items.Item.{Item}
use Rattle.history.specs.Stack.{Stack}
use Rattle.history.specs.Faults.{values_fault}
use Rattle.history.proofs.HistoryLemmas.{check-Stands}
use Rattle.edit_steps.specs.Ranges.{IsOpening}

none_case : (a b : Result ⊤ ParamFault) → option_or (result_err a) (result_err b) ≡ None → (a ≡ Ok tt) × (b ≡ Ok tt)
none_case (Ok x) (Ok y) e = (refl, refl)
none_case (Ok x) (Err f) e = cc
none_case (Err f) b e = cc

pub params_kept : (item : Item) → values_fault item ≡ None → check_of item.params ≡ Ok tt
params_kept item e = (none_case (check_of item.params) (check_blend_of (module_of item.params) item.blend) e).0

pub blend_at_kept : (item : Item) → values_fault item ≡ None → check_blend_of (module_of item.params) item.blend ≡ Ok tt
blend_at_kept item e = (none_case (check_of item.params) (check_blend_of (module_of item.params) item.blend) e).1

fit_within : (m : Module) (o : Option Blend) → IsBlendFit m o → IfSome o IsBlendWithin
fit_within m None h = tt
fit_within m (Some b) h = h.1

-- a blend without fault at its module is within its ranges
pub blend_within_at : (m : Module) (o : Option Blend) → check_blend_of m o ≡ Ok tt → IfSome o IsBlendWithin
blend_within_at m o e = fit_within m o ((fit_tells m o (check_blend_of m o) refl).0 (rw e refl))

pub blend_kept : (item : Item) → values_fault item ≡ None → IfSome item.blend IsBlendWithin
blend_kept item e = blend_within_at (module_of item.params) item.blend (blend_at_kept item e)

-- the items of an opening history have no value outside its range
pub items_kept : (h : Stack) → IsOpening h → All (λ item. values_fault item ≡ None) h.items
items_kept h o k d less =
    let item = slice_index_or h.items k d in
    let both = check-Stands h.order item (o.history.items k d less) in
    rw (both.0, both.1) refl
