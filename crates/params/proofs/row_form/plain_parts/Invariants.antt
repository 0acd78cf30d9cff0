use Rattle.std.proofs.Common.{◌≡◌, drop}
use Rattle.serde_json.specs.View.{view}
use Rattle.params.specs.Seen.{parts_seen}
use Rattle.params.specs.Stated.{parts_form}
use Rattle.params.proofs.ReadLemmas.{with_front}
use Rattle.params.proofs.row_form.plain_parts.Given as goal

abbrev pub invariant-loop-cell : goal.invariant-loop-cell
invariant-loop-cell l = record {
  count : l.parts.count ≡ l.cell-index;
  read : with_front (parts_seen l.parts) (parts_form (drop l.cell-index l.row) (view l.value)) ≡ parts_form l.row (view l.value);
}
