use Rattle.px.specs.Repainted.{IsEditedRow}
use Rattle.px.proofs.row_editor.ByChangeRowEditor.edit_row.Given as goal

abbrev pub invariant-loop-k : goal.invariant-loop-k
invariant-loop-k g l = IsEditedRow (λ x y old r. goal.F-post g l.self.change.now x y old r) l.x l.y l.k l.fn.row l.row
