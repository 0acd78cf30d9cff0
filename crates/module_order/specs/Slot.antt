-- Slots, and lists of slots.
use Rattle.std.specs.Prelude.{ℕ, Bool, not, ◌&&◌, ◌==◌, nat_lt, List, [], ◌∷◌}
use Rattle.std.specs.List.{filter, list_any}
use Rattle.module_order.specs.declared.slots.Slot.{Slot}

-- the slot of a module's number and an instance's
abbrev pub slot : ℕ → ℕ → Slot
slot m i = record { «module» = m; instance = i }

-- whether x is the slot s
abbrev pub is_slot : Slot → Slot → Bool
is_slot s x = (x.module == s.module) && (x.instance == s.instance)

-- whether the slot s stands in the list
abbrev pub has_slot : List Slot → Slot → Bool
has_slot slots s = list_any (is_slot s) slots

-- the list without the slot s, the others in their order
abbrev pub without : List Slot → Slot → List Slot
without slots s = filter (λ x. not (is_slot s x)) slots

-- whether the slot is of a module that stands at a fixed place
abbrev pub is_fixed : Slot → Bool
is_fixed s = nat_lt s.module 3

-- the slots that begin every order: raw preparation, temperature and demosaic
abbrev pub fixed_slots : List Slot
fixed_slots = slot 0 0 ∷ slot 1 0 ∷ slot 2 0 ∷ []

-- the order of a new history: each module once, as instance 0
abbrev pub start_slots : List Slot
start_slots = slot 0 0 ∷ slot 1 0 ∷ slot 2 0 ∷ slot 3 0 ∷ slot 4 0 ∷ slot 5 0 ∷ slot 6 0 ∷ slot 7 0 ∷ []
