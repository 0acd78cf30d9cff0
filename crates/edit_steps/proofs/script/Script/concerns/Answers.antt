use Rattle.std.proofs.Common.{◌∙◌, List, ap, arith}
use Rattle.std.specs.Prelude.{slice_range}
use Rattle.std.specs.List.{list_any}
use Rattle.edit_steps.specs.declared.change.Change.{Change}
use Rattle.edit_steps.specs.Pipes.{reaches}
use Rattle.edit_steps.specs.Script.{Recipe, recipe, changes, concerns_between}
use Rattle.edit_steps.proofs.KeptLemmas.{kept-count, kept-concerns}
use Rattle.edit_steps.proofs.script.Script.concerns.Goals as goal

pub slice_bounds-any_reaches-end : goal.slice_bounds-any_reaches-end
slice_bounds-any_reaches-end c =
    let s = c.self.inside in
    let r = recipe s.settings s.opening s.steps.items in
    omega (arith, kept-count r s.changes.items c.self.invariant, ap changes c.self.view_is, c.requires.there, s.changes.ok.0)

pub returns : goal.returns
returns c =
    let s = c.self.inside in
    let r = recipe s.settings s.opening s.steps.items in
    c.any_reaches.ensures ∙ ap (λ (ks : List Change). list_any (λ (k : Change). reaches c.args.pipe k.scope) (slice_range ks c.args.from c.args.to)) c.deref.ensures.value
    ∙ kept-concerns r s.changes.items c.args.pipe c.args.from c.args.to c.self.invariant ∙ ap (λ (q : Recipe). concerns_between q c.args.pipe c.args.from c.args.to) c.self.view_is
