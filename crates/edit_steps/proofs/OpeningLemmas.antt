-- The start history is one that a script may begin with.
use Rattle.std.proofs.Common.{◌≤◌, [], arith}
use Rattle.std.specs.List.{All}
use Rattle.std.proofs.lemmas.List.Elements.{All-nil, All-from_recursion}
use Rattle.params.specs.Names.{last_number}
use Rattle.module_order.specs.declared.slots.Slot.{Slot}
use Rattle.module_order.specs.Slot.{start_slots}
use Rattle.history.specs.Stack.{stack}
use Rattle.edit_steps.specs.Ranges.{IsOpening}

start_modules : All (λ (s : Slot). s.module ≤ last_number) start_slots
start_modules = All-from_recursion (λ (s : Slot). s.module ≤ last_number) start_slots (omega arith, (omega arith, (omega arith, (omega arith, (omega arith, (omega arith, (omega arith, (omega arith, tt))))))))

pub IsOpening-start : IsOpening (stack [] 0 start_slots)
IsOpening-start = record { history = record { items = All-nil _; end = omega arith }; few = omega arith; modules = start_modules }
