use Rattle.std.proofs.Common.{◌≡◌, drop}
use Rattle.serde_json.specs.View.{items_view}
use Rattle.edit_script.specs.Script.{steps_behind}
use Rattle.edit_script.proofs.reading.steps_behind.Given as goal

abbrev pub invariant-loop-value : goal.invariant-loop-value
invariant-loop-value l =
    steps_behind l.draft (items_view (drop l.value-index l.values)) ≡ steps_behind l.fn.draft (items_view l.values)
