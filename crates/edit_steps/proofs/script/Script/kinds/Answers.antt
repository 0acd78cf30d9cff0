use Rattle.std.proofs.Common.{◌∙◌, List, ap, arith}
use Rattle.std.specs.Prelude.{slice_range, map}
use Rattle.edit_steps.specs.declared.change.Change.{Change}
use Rattle.edit_steps.specs.Changes.{kinds_in}
use Rattle.edit_steps.specs.Script.{Recipe, recipe, changes, kinds_between}
use Rattle.edit_steps.proofs.KeptLemmas.{kept-count, kept-kinds, kinds-same}
use Rattle.edit_steps.proofs.script.Script.kinds.Goals as goal

pub slice_bounds-kinds_in-end : goal.slice_bounds-kinds_in-end
slice_bounds-kinds_in-end c =
    let s = c.self.inside in
    let r = recipe s.settings s.opening s.steps.items in
    omega (arith, kept-count r s.changes.items c.self.invariant, ap changes c.self.view_is, c.requires.there, s.changes.ok.0)

pub returns-clause-value : goal.returns-clause-value
returns-clause-value c =
    let s = c.self.inside in
    let r = recipe s.settings s.opening s.steps.items in
    c.kinds_in.ensures ∙ ap (λ (ks : List Change). kinds_in (map (λ (k : Change). k.kind) (slice_range ks c.args.from c.args.to))) c.deref.ensures.value
    ∙ kept-kinds r s.changes.items c.args.from c.args.to c.self.invariant ∙ ap (λ (q : Recipe). kinds_between q c.args.from c.args.to) c.self.view_is

pub returns-clause-same : goal.returns-clause-same
returns-clause-same c = kinds-same c.args.self.now c.args.from c.args.to c.kinds_in.result c.requires.rising (returns-clause-value c)
