-- Lemmas on single module instances.
use Rattle.std.proofs.Common.{◌≡◌, ◌&&◌, ◌↔◌, IsTrue, refl}
use Rattle.std.specs.Prelude.{⊤, Result, Ok, Err, is_ok}
use Rattle.params.specs.declared.fault.ParamFault.{ParamFault}
use Rattle.params.specs.Ranges.{module_of, check_of, check_blend_of}
use Rattle.pipe_nodes.specs.declared.active.Active.{Active}
use Rattle.pipe_nodes.specs.Active.{IsFit}

both_ok : (r s : Result ⊤ ParamFault) → IsTrue (is_ok r && is_ok s) → (r ≡ Ok tt) × (s ≡ Ok tt)
both_ok (Ok a) (Ok b) h = (refl, refl)
both_ok (Ok a) (Err e) h = cc
both_ok (Err e) s h = cc

ok_both : (r s : Result ⊤ ParamFault) → r ≡ Ok tt → s ≡ Ok tt → IsTrue (is_ok r && is_ok s)
ok_both (Ok a) (Ok b) e f = refl
ok_both (Ok a) (Err x) e f = cc
ok_both (Err x) s e f = cc

-- both tests tell whether an instance is within its ranges
pub fit_tells : (a : Active) → IsTrue (is_ok (check_of a.params) && is_ok (check_blend_of (module_of a.params) a.blend)) ↔ IsFit a
fit_tells a = (
  λ h. let both = both_ok (check_of a.params) (check_blend_of (module_of a.params) a.blend) h in record { params = both.0; blend = both.1 },
  λ fit. ok_both (check_of a.params) (check_blend_of (module_of a.params) a.blend) fit.params fit.blend,
)
