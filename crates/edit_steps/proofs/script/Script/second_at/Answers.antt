use Rattle.std.proofs.Common.{◌≡◌, ◌≤◌, ◌∙◌, take, sym, ap, subst, arith}
use Rattle.std.specs.Prelude.{IfSome, is_some}
use Rattle.edit_steps.specs.declared.change.Change.{Change}
use Rattle.edit_steps.specs.Ranges.{IsView}
use Rattle.edit_steps.specs.Changes.{changes_of}
use Rattle.edit_steps.specs.Script.{Recipe, recipe, changes, second_at}
use Rattle.edit_steps.proofs.ChangeLemmas.{second_after-there}
use Rattle.edit_steps.proofs.KeptLemmas.{kept-count, kept-views, second_at-within}
use Rattle.edit_steps.proofs.script.Script.second_at.Goals as goal

pub index-requires : goal.index-requires
index-requires c =
    let s = c.self.inside in
    let r = recipe s.settings s.opening s.steps.items in
    omega (arith, kept-count r s.changes.items c.self.invariant, ap changes c.self.view_is, c.requires, s.changes.ok.0)

pub returns-clause-value : goal.returns-clause-value
returns-clause-value c =
    let s = c.self.inside in
    let r = recipe s.settings s.opening s.steps.items in
    let within : c.args.m ≤ changes r = omega (arith, ap changes c.self.view_is, c.requires) in
    ap (λ (k : Change). k.second) c.index.ensures ∙ (kept-views r s.changes.items c.args.m _ _ c.self.invariant within (omega arith)).1 ∙ ap (λ (q : Recipe). second_at q c.args.m) c.self.view_is

pub returns-clause-within : goal.returns-clause-within
returns-clause-within c =
    let s = c.self.inside in
    let r = recipe s.settings s.opening s.steps.items in
    let within : c.args.m ≤ changes r = omega (arith, ap changes c.self.view_is, c.requires) in
    let value : c.index.result.now.second ≡ second_at r c.args.m = ap (λ (k : Change). k.second) c.index.ensures ∙ (kept-views r s.changes.items c.args.m _ _ c.self.invariant within (omega arith)).1 in
    subst (λ o. IfSome o IsView) (sym value) (second_at-within r c.args.m c.self.invariant.script)

pub returns-clause-there : goal.returns-clause-there
returns-clause-there c =
    let s = c.args.self.now.settings in
    let same = ap is_some (returns-clause-value c) ∙ second_after-there s.second (take c.args.m (changes_of c.args.self.now.steps)) in
    ((λ h. sym same ∙ h), (λ h. same ∙ h))
