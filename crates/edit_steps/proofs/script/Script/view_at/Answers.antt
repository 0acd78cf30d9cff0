use Rattle.std.proofs.Common.{◌≡◌, ◌≤◌, ◌∙◌, sym, ap, subst, arith}
use Rattle.edit_steps.specs.declared.change.Change.{Change}
use Rattle.edit_steps.specs.Ranges.{IsView}
use Rattle.edit_steps.specs.Script.{Recipe, recipe, changes, view_at}
use Rattle.edit_steps.proofs.KeptLemmas.{kept-count, kept-views, view_at-within}
use Rattle.edit_steps.proofs.script.Script.view_at.Goals as goal

pub index-requires : goal.index-requires
index-requires c =
    let s = c.self.inside in
    let r = recipe s.settings s.opening s.steps.items in
    omega (arith, kept-count r s.changes.items c.self.invariant, ap changes c.self.view_is, c.requires, s.changes.ok.0)

pub returns-clause-value : goal.returns-clause-value
returns-clause-value c =
    let s = c.self.inside in
    let r = recipe s.settings s.opening s.steps.items in
    let within : c.args.m ≤ changes r = omega (arith, ap changes c.self.view_is, c.requires) in
    ap (λ (k : Change). k.view) c.index.ensures ∙ (kept-views r s.changes.items c.args.m _ _ c.self.invariant within (omega arith)).0 ∙ ap (λ (q : Recipe). view_at q c.args.m) c.self.view_is

pub returns-clause-within : goal.returns-clause-within
returns-clause-within c =
    let s = c.self.inside in
    let r = recipe s.settings s.opening s.steps.items in
    let within : c.args.m ≤ changes r = omega (arith, ap changes c.self.view_is, c.requires) in
    let value : c.index.result.now.view ≡ view_at r c.args.m = ap (λ (k : Change). k.view) c.index.ensures ∙ (kept-views r s.changes.items c.args.m _ _ c.self.invariant within (omega arith)).0 in
    subst IsView (sym value) (view_at-within r c.args.m c.self.invariant.script)
