use Rattle.px.specs.Repainted.{AreEditedRows}
use Rattle.px.proofs.editing.edit_rows.Given as goal

abbrev pub invariant-loop-j : goal.invariant-loop-j
invariant-loop-j g l = AreEditedRows (g.E.RowEditor.gives l.editor) l.x l.y l.w l.j l.fn.values l.values
