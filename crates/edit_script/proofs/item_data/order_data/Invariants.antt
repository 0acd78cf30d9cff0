use Rattle.std.proofs.Common.{◌≡◌, ◌≤◌, map, take}
use Rattle.std.specs.List.{AllWithin}
use Rattle.serde_json.specs.View.{view}
use Rattle.module_order.specs.Order.{IsOrder}
use Rattle.edit_script.specs.Written.{slot_data}
use Rattle.edit_script.proofs.item_data.order_data.Given as goal

abbrev pub invariant-loop-place : goal.invariant-loop-place
invariant-loop-place l = record {
  order : IsOrder l.order;
  same : map view l.values.items ≡ map slot_data (take l.place l.order);
  instances : AllWithin (λ s. s.instance ≤ 255) l.order 0 l.place;
}
