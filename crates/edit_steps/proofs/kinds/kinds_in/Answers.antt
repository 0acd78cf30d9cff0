use Rattle.std.proofs.Common.{◌∙◌, sym}
use Rattle.history.specs.declared.changes.Kind.{Kind}
use Rattle.edit_steps.specs.declared.change.Change.{Change}
use Rattle.edit_steps.specs.Changes.{is_top, is_synch, is_remove, is_zoomed}
use Rattle.edit_steps.proofs.KeptLemmas.{list_any-map}
use Rattle.edit_steps.proofs.kinds.kinds_in.Goals as goal

pub returns : goal.returns
returns c =
    let kind_of : Change → Kind = λ k. k.kind in
    let top = c.has_top.ensures ∙ sym (list_any-map is_top kind_of c.args.changes.now) in
    let synch = c.has_synch.ensures ∙ sym (list_any-map is_synch kind_of c.args.changes.now) in
    let remove = c.has_remove.ensures ∙ sym (list_any-map is_remove kind_of c.args.changes.now) in
    let zoomed = c.has_zoomed.ensures ∙ sym (list_any-map is_zoomed kind_of c.args.changes.now) in
    rw (top, synch, remove, zoomed)
