-- What every order of instances is.
use Rattle.std.specs.Prelude.{◌≡◌, ◌≤◌, List, length, take, drop}
use Rattle.std.specs.List.{All, filter}
use Rattle.module_order.specs.declared.slots.Slot.{Slot}
use Rattle.module_order.specs.Slot.{is_slot, fixed_slots}

-- no slot stands twice
abbrev pub AreDistinct : List Slot → Type 0
AreDistinct slots = (s : Slot) → length (filter (is_slot s) slots) ≤ 1

-- at most 64 slots: the fixed ones first, none of their modules behind them, and no slot twice
pub record IsOrder (slots : List Slot) : Type 0 where
  pub few : length slots ≤ 64
  pub front : take 3 slots ≡ fixed_slots
  pub movable : All (λ s. 3 ≤ s.module) (drop 3 slots)
  pub distinct : AreDistinct slots
