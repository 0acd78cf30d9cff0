use Rattle.std.proofs.Common.{◌≡◌, drop}
use Rattle.serde_json.specs.View.{items_view}
use Rattle.edit_script.specs.Opening.{slots_form}
use Rattle.edit_script.proofs.ListLemmas.{with_slots}
use Rattle.edit_script.proofs.history_form.slots_form.Given as goal

abbrev pub invariant-loop-value : goal.invariant-loop-value
invariant-loop-value l =
    with_slots l.slots.items (slots_form (items_view (drop l.value-index l.values))) ≡ slots_form (items_view l.values)
