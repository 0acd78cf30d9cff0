use Rattle.std.proofs.Common.{ℕ, ◌≤◌, slice_index, ap, ◌∙◌, arith}
use Rattle.px.proofs.EditLemmas.{asks_of_rows, repainted}
use Rattle.px.proofs.editing.repaint_rows.Goals as goal

pub edit_rows-requires-clause-asks : goal.edit_rows-requires-clause-asks
edit_rows-requires-clause-asks g c =
    let rows = c.rows_of-rows.ensures.rows in
    let area = c.region-region.ensures.region in
    asks_of_rows (g.E.RowEditor.asks c.args.editor.now) c.args.plane _ _ _ _ _ c.requires.rgb
    (ap (λ r. r.x) rows ∙ ap (λ a. a.x) area) (ap (λ r. r.y) rows ∙ ap (λ a. a.y) area) (ap (λ r. r.w) rows ∙ ap (λ a. a.w) area) (ap (λ r. r.h) rows ∙ ap (λ a. a.h) area)
    (c.deref_mut.ensures.value ∙ c.into_values-values.ensures.values) c.requires.asks

pub edit_rows-requires-clause-gives : goal.edit_rows-requires-clause-gives
edit_rows-requires-clause-gives g c j k r below k_lt =
    let rows = c.rows_of-rows.ensures.rows in
    let area = c.region-region.ensures.region in
    asks_of_rows (λ x y old. g.E.RowEditor.gives c.args.editor.now x y old r → (i : ℕ) → slice_index r i ≤ 1048575) c.args.plane _ _ _ _ _ c.requires.rgb
    (ap (λ r. r.x) rows ∙ ap (λ a. a.x) area) (ap (λ r. r.y) rows ∙ ap (λ a. a.y) area) (ap (λ r. r.w) rows ∙ ap (λ a. a.w) area) (ap (λ r. r.h) rows ∙ ap (λ a. a.h) area)
    (c.deref_mut.ensures.value ∙ c.into_values-values.ensures.values) (λ x y inside given. c.requires.gives x y r inside given) j k below k_lt

pub returns : goal.returns
returns g c =
    let rows = c.rows_of-rows.ensures.rows in
    let area = c.region-region.ensures.region in
    let made = c.from_rows.ensures in
    repainted (g.E.RowEditor.gives c.args.editor.now) c.args.plane c.from_rows.result _ _ _ _ _ _ c.edit_rows.new.values _ c.requires.rgb
    (ap (λ r. r.x) rows ∙ ap (λ a. a.x) area) (ap (λ r. r.y) rows ∙ ap (λ a. a.y) area) (ap (λ r. r.w) rows ∙ ap (λ a. a.w) area) (ap (λ r. r.h) rows ∙ ap (λ a. a.h) area)
    (c.deref_mut.ensures.value ∙ c.into_values-values.ensures.values) c.edit_rows.ensures.rows
    (omega (arith, c.edit_rows.auto.values, c.deref_mut.ensures.len))
    (ap (λ p. p.kind) made ∙ c.kind-kind.ensures) (ap (λ p. p.w) made ∙ ap (λ s. s.0) c.sides-w.ensures.sides) (ap (λ p. p.h) made ∙ ap (λ s. s.1) c.sides-w.ensures.sides)
    (ap (λ p. p.area) made ∙ area) (ap (λ p. p.values) made)
