use Rattle.std.proofs.Common.{◌≡◌, drop}
use Rattle.serde_json.specs.View.{items_view}
use Rattle.params.specs.Stated.{pairs_form}
use Rattle.params.proofs.ReadLemmas.{with_front}
use Rattle.params.proofs.row_form.pairs_form.Given as goal

abbrev pub invariant-loop-value : goal.invariant-loop-value
invariant-loop-value l = with_front l.pairs.items (pairs_form (items_view (drop l.value-index l.values))) ≡ pairs_form (items_view l.values)
