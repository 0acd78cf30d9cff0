use Rattle.std.proofs.Common.{◌≡◌, map, take}
use Rattle.std.specs.List.{AllWithin}
use Rattle.serde_json.specs.View.{view}
use Rattle.edit_script.specs.Written.{item_data}
use Rattle.edit_script.specs.Typed.{IsItemTyped}
use Rattle.edit_script.proofs.item_data.items_data.Given as goal

abbrev pub invariant-loop-item : goal.invariant-loop-item
invariant-loop-item l = record {
  same : map view l.values.items ≡ map item_data (take l.item-index l.items);
  typed : AllWithin IsItemTyped l.items 0 l.item-index;
}
