use Rattle.std.proofs.Common.{◌≡◌, drop}
use Rattle.serde_json.specs.View.{items_view}
use Rattle.edit_script.specs.Opening.{kept_items}
use Rattle.edit_script.specs.Seen.{seen_items}
use Rattle.edit_script.proofs.ListLemmas.{with_items}
use Rattle.edit_script.proofs.history_form.kept_items.Given as goal

abbrev pub invariant-loop-value : goal.invariant-loop-value
invariant-loop-value l =
    with_items (seen_items l.kept) (kept_items (items_view (drop l.value-index l.values))) ≡ kept_items (items_view l.values)
