-- Equal prefixes are the same prefix: the derived equality of instances tells sameness.
use Rattle.std.proofs.Common.{◌≡◌, Bool, true, ◌&&◌, nat_eq, refl, sym, subst}
use Rattle.std.specs.Bool.{Decides}
use Rattle.std.specs.Cmp.Lexicographic.{pointwise}
use Rattle.std.specs.Option.{option_eq}
use Rattle.std.proofs.lemmas.Slice.Eq.{slice_eq-Decides}
use Rattle.params.specs.contracts.blending.BlendPartialEq.TheImpl as blend_eq
use Rattle.params.specs.contracts.settings.ParamsPartialEq.TheImpl as params_eq
use Rattle.params.proofs.SameLemmas.{both, num, same_numbers, params_same, blend_of_same}
use Rattle.pipe_nodes.specs.declared.active.Active.{Active}
use Rattle.pipe_nodes.specs.contracts.active.ActiveEq.TheImpl.Laws.{laws-law}
use Rattle.pipe_nodes.specs.Prefix.{PrefixSeen}
use Rattle.pipe_nodes.specs.SamePrefix.{same_active, same_prefix}

active_same : (x y : Active) → same_active x y ≡ true → x ≡ y
active_same x y h =
    let s = both (nat_eq x.instance y.instance) ((params_eq.ghosts).eq x.params y.params && option_eq (blend_eq.ghosts).eq x.blend y.blend) h in
    let t = both ((params_eq.ghosts).eq x.params y.params) (option_eq (blend_eq.ghosts).eq x.blend y.blend) s.1 in
    let instance_is = num x.instance y.instance s.0 in
    let params_is = params_same x.params y.params t.0 in
    let blend_is = blend_of_same x.blend y.blend t.1 in
    λ i. record { instance = instance_is i; params = params_is i; blend = blend_is i }

-- equal instances are the same
pub active-Decides : (x y : Active) → Decides (same_active x y) (x ≡ y)
active-Decides x y = (active_same x y, λ e. subst (λ z. same_active x z ≡ true) e (laws-law.refl x))

prefix_same : (p q : PrefixSeen) → same_prefix p q ≡ true → p ≡ q
prefix_same p q h =
    let s = both (nat_eq p.level q.level) (pointwise same_active p.actives q.actives) h in
    let level = num p.level q.level s.0 in
    let actives = (slice_eq-Decides active-Decides p.actives q.actives (pointwise same_active p.actives q.actives) refl).0 s.1 in
    λ i. record { level = level i; actives = actives i }

same_prefix-itself : (p : PrefixSeen) → same_prefix p p ≡ true
same_prefix-itself p =
    let actives = (slice_eq-Decides active-Decides p.actives p.actives (pointwise same_active p.actives p.actives) refl).1 refl in
    rw (same_numbers p.level p.level refl, actives) refl

-- equal prefixes are the same
pub prefix-Decides : (p q : PrefixSeen) → Decides (same_prefix p q) (p ≡ q)
prefix-Decides p q = (prefix_same p q, λ e. subst (λ z. same_prefix p z ≡ true) e (same_prefix-itself p))

-- what equals the test of equality tells sameness
pub tells_sameness : (p q : PrefixSeen) (r : Bool) → r ≡ same_prefix p q → Decides r (p ≡ q)
tells_sameness p q r e = subst (λ b. Decides b (p ≡ q)) (sym e) (prefix-Decides p q)
