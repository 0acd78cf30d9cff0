use Rattle.std.proofs.Common.{◌≤◌, ◌-◌}
use Rattle.std.specs.Option.{option_copied}
use Rattle.px.specs.Repainted.{IsEditedRow}
use Rattle.blend.specs.Rows.{lays}
use Rattle.blend.proofs.overlay.OverlayRowEditor.edit_row.Given as goal

abbrev pub invariant-loop-from : goal.invariant-loop-from
invariant-loop-from l = record {
  edited : IsEditedRow (lays l.self.blend.now (option_copied l.self.cover) l.self.input.now) l.x l.y l.from l.fn.row l.row;
  within : l.from ≤ l.n;
}

abbrev pub decreases-loop-from : goal.decreases-loop-from
decreases-loop-from l = l.n - l.from
