use Rattle.std.proofs.Common.{◌≡◌, drop}
use Rattle.params.specs.Form.{is_one_of}
use Rattle.params.specs.Stated.{keys_of}
use Rattle.params.proofs.row_form.is_row_key.Given as goal

abbrev pub invariant-loop-cell : goal.invariant-loop-cell
invariant-loop-cell l = is_one_of l.key (keys_of (drop l.cell-index l.row)) ≡ is_one_of l.key (keys_of l.row)
