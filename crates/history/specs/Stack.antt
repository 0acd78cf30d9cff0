-- A history: items, how many of them count, and the order of the instances.
use Rattle.std.specs.Prelude.{ℕ, List}
use Rattle.module_order.specs.declared.slots.Slot.{Slot}
use Rattle.history.specs.declared.items.Item.{Item}

pub record Stack : Type 0 where
  pub items : List Item
  pub end : ℕ
  pub order : List Slot

abbrev pub stack : List Item → ℕ → List Slot → Stack
stack items end order = record { items = items; end = end; order = order }
