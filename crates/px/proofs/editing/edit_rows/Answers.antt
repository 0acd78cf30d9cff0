use Rattle.std.proofs.Common.{◌*◌, ◌+◌, subst, sym, refl, arith}
use Rattle.px.proofs.RowLemmas.{row_fits}
use Rattle.px.proofs.EditLemmas.{edited_rows_more, row_kept}
use Rattle.px.proofs.editing.edit_rows.Goals as goal

pub loop-j-preserved : goal.loop-j-preserved
loop-j-preserved g c =
    let fits = row_fits c.loop-j.j c.args.h c.args.w 3 c.loop-j-test.true in
    edited_rows_more _ _ _ _ c.loop-j.j _ _ _ _ _ c.loop-j.invariant c.edit_row.ensures.row refl (omega arith) (omega arith) (omega arith)

pub edit_row-requires-clause-asks : goal.edit_row-requires-clause-asks
edit_row-requires-clause-asks g c k below =
    let kept = row_kept (g.E.RowEditor.gives c.args.editor.now) c.args.x c.args.y c.args.w c.loop-j.j (c.loop-j.j * (c.args.w * 3)) _ k c.args.values.now c.loop-j.values c.loop-j.invariant refl (omega arith) below in
    subst (λ t. g.E.RowEditor.asks c.args.editor.now (c.args.x + k) (c.args.y + c.loop-j.j) t) (sym kept) (c.requires.asks c.loop-j.j k c.loop-j-test.true below)

pub edit_row-requires-clause-gives : goal.edit_row-requires-clause-gives
edit_row-requires-clause-gives g c k r below given =
    let kept = row_kept (g.E.RowEditor.gives c.args.editor.now) c.args.x c.args.y c.args.w c.loop-j.j (c.loop-j.j * (c.args.w * 3)) _ k c.args.values.now c.loop-j.values c.loop-j.invariant refl (omega arith) below in
    c.requires.gives c.loop-j.j k r c.loop-j-test.true below (subst (λ t. g.E.RowEditor.gives c.args.editor.now (c.args.x + k) (c.args.y + c.loop-j.j) t r) kept given)
