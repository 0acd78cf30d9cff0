use Rattle.std.proofs.Common.{◌≡◌, ◌∙◌, ◌++◌, ◌∷◌, [], ap, sym, subst}
use Rattle.std.specs.Prelude.{None}
use Rattle.edit_steps.specs.Changes.{scope_of}
use Rattle.edit_steps.specs.Faults.{step_fault}
use Rattle.edit_steps.specs.Kept.{kept_as}
use Rattle.edit_steps.specs.Script.{Recipe, recipe}
use Rattle.edit_steps.proofs.KeptLemmas.{IsKept-more, StandsBehind-more}
use Rattle.edit_steps.proofs.draft.Draft.add.Goals as goal

pub invariant_of-self-2 : goal.invariant_of-self-2
invariant_of-self-2 c =
    let d = c.self.inside in
    let r = recipe d.settings d.opening d.steps.items in
    let allowed : step_fault d.settings d.opening d.steps.items c.args.step ≡ None = subst (λ (q : Recipe). step_fault q.settings q.opening q.steps c.args.step ≡ None) (sym c.self.view_is) c.requires.allowed in
    let pushed = c.push_kept.ensures ∙ ap (λ xs. xs ++ c.args.step ∷ []) c.in_ok-reserve.ensures.items in
    let kept = c.keep_of.ensures ∙ ap (λ ks. ks ++ kept_as c.in_ok-kind.kind c.view_behind-self-inside.result c.second_behind-self-inside.result (scope_of c.args.step)) c.in_ok-reserve-2.ensures.items in (
      IsKept-more r d.changes.items _ c.args.step d.histories d.view d.second c.in_ok-kind.kind c.view_behind-self-inside.result c.second_behind-self-inside.result _ c.self.invariant.0 c.self.invariant.1 c.requires.within allowed pushed
          c.in_ok-kind.ensures.kind c.view_behind-self-inside.ensures c.second_behind-self-inside.ensures kept,
      StandsBehind-more r c.args.step d.histories _ d.view _ d.second _ _ c.self.invariant.1 pushed c.in_ok-kind.ensures.histories c.view_behind-self-inside.ensures c.second_behind-self-inside.ensures,
    )
