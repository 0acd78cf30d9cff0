-- what contracts see of items and of a stated history
use Rattle.std.specs.Prelude.{List, Result, Vec}
use Rattle.std.specs.Result.{result_map_both}
use Rattle.std.specs.declared.alloc.Global.{Global}
use Rattle.history.specs.declared.items.Item.{Item}
use Rattle.edit_script.specs.declared.history_form.StatedHistory.{StatedHistory}
use Rattle.edit_script.specs.Opening.{Stated}

-- items or a fault, seen as a list or the fault
abbrev pub seen_items : {T E : Type 0} → Result (Vec T Global) E → Result (List T) E
seen_items kept = result_map_both (λ v. v.items) (λ f. f) kept

abbrev pub seen_stated : StatedHistory → Stated
seen_stated s = record { items = seen_items s.items; end = s.end; order = s.order.items }
