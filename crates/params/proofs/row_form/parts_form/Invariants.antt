use Rattle.std.proofs.Common.{◌≡◌, drop}
use Rattle.serde_json.specs.View.{view}
use Rattle.params.specs.Seen.{all_stated}
use Rattle.params.specs.Stated.{parts_form}
use Rattle.params.proofs.ReadLemmas.{with_front}
use Rattle.params.proofs.row_form.parts_form.Given as goal

abbrev pub invariant-loop-cell : goal.invariant-loop-cell
invariant-loop-cell l = with_front (all_stated l.parts.items) (parts_form (drop l.cell-index l.row) (view l.value)) ≡ parts_form l.row (view l.value)
