use Rattle.std.proofs.Common.{◌≡◌, ℕ, ◌∷◌, ◌∙◌, ap, subst}
use Rattle.params.specs.declared.settings.Params.{Params}
use Rattle.geometry.specs.Needed.{needed}
use Rattle.geometry.specs.Sides.{sides_after}
use Rattle.pipe_nodes.specs.declared.active.Active.{Active}
use Rattle.pipe_run.specs.Planned.{planned}
use Rattle.pipe_run.proofs.PlanLemmas.{more-planned}
use Rattle.pipe_run.proofs.planning.+plan_back.Goals as goal

pub returns-clause-first : goal.returns-clause-first
returns-clause-first t c =
    let a : Active = c.in-Some.piece.now in
    let later = c.in-Some.later.now in
    let sides : ℕ × ℕ = (c.args.w, c.args.h) in
    let window = c.args.window.now in
    let behind = c.plan_back-behind.ensures.first in
    let params_is : c.active.result.now.params ≡ a.params = ap (λ (x : Active). x.params) c.active.ensures.active in
    let sides_is : c.roi_out-columns.result ≡ sides_after a.params sides = c.roi_out-columns.ensures.sides ∙ ap (λ (p : Params). sides_after p sides) params_is in
    let first : planned later (sides_after a.params sides) window ≡ c.plan_back-behind.result ∷ behind.0 = subst (λ (s : ℕ × ℕ). planned later s window ≡ c.plan_back-behind.result ∷ behind.0) sides_is behind.1 in
    let region : c.roi_back-region.result ≡ needed a.params sides c.plan_back-behind.result = c.roi_back-region.ensures.region ∙ ap (λ (p : Params). needed p sides c.plan_back-behind.result) params_is in
    (planned later (sides_after a.params sides) window, more-planned c.args.pieces.now later a sides window c.plan_back-behind.result c.roi_back-region.result behind.0 c.in-Some.ensures.cases.0 first region)
