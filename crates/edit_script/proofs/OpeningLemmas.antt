-- The opening history that is read may begin a script.
use Rattle.std.proofs.Common.{◌≡◌, ℕ, ◌≤◌, Bool, true, false, List, length, Option, Some, None, option_map, Result, Ok, Err, IfSome, IfOk, refl, ap, subst, suc, zero, arith}
use Rattle.std.specs.Prelude.{nat_lt, if◌then◌else◌}
use Rattle.std.specs.List.{All}
use Rattle.std.proofs.lemmas.Bool.Decides.{nat_tests}
use Rattle.serde_json.specs.Data.{Data}
use Rattle.module_order.specs.declared.slots.Slot.{Slot}
use Rattle.module_order.specs.Slot.{start_slots}
use Rattle.module_order.specs.Faults.{order_fault}
use Rattle.history.specs.declared.items.Item.{Item}
use Rattle.history.specs.declared.fault.EditFault.{EditFault}
use Rattle.history.specs.Stack.{Stack, stack}
use Rattle.history.specs.Faults.{stack_fault, of_order}
use Rattle.history.proofs.HistoryLemmas.{IsHistory-fault}
use Rattle.edit_steps.specs.declared.fault.ScriptFault.{ScriptFault}
use Rattle.edit_steps.specs.declared.fault.ScriptEnd.{ScriptEnd}
use Rattle.edit_script.specs.Reads.{IsReadAs}
use Rattle.edit_steps.specs.Ranges.{IsOpening}
use Rattle.edit_script.specs.Binds.{◌>>=◌}
use Rattle.edit_script.specs.Opening.{Stated, history_form}
use Rattle.edit_script.specs.Script.{or_form, or_param, unless_edit, few_items, order_of, stack_of, opening_of, start_history, opening_at}
use Rattle.edit_script.proofs.SlotLemmas.{IsOfModule, IsOfModules, history_few}

-- ---- the history

few_case : (b : Bool) (fault : ScriptFault) (all items : List Item) → (if b then Err fault else Ok all) ≡ Ok items → (b ≡ false) × (all ≡ items)
few_case true fault all items e = cc
few_case false fault all items e = (refl, cc)

few_kept : (all items : List Item) → few_items all ≡ Ok items → length items ≤ 256
few_kept all items e =
    let both = few_case (nat_lt 256 (length all)) _ all items e in
    let small : nat_lt 256 (length all) ≡ false = both.0 in
    let same : all ≡ items = both.1 in
    let len : length all ≡ length items = ap length same in
    grind (arith, nat_tests)

same_case : {X : Type 0} (fault : Option EditFault) (x y : X) → unless_edit fault x ≡ Ok y → (fault ≡ None) × (x ≡ y)
same_case None x y e = (refl, cc)
same_case (Some f) x y e = cc

stack_case : (fault : Option EditFault) (h : Stack) → (fault ≡ None → IsOpening h) → IfOk (unless_edit fault h) IsOpening
stack_case None h k = k refl
stack_case (Some f) h k = tt

order_case : (items : List Item) (end : ℕ) (slots : List Slot) (r : Result (List Slot) ScriptFault) → order_of slots ≡ r → length items ≤ 256 → All IsOfModule slots
    → IfOk (r >>= λ order. stack_of (stack items end order)) IsOpening
order_case items end slots (Err f) e few h = tt
order_case items end slots (Ok order) e few h =
    let same = same_case (option_map of_order (order_fault slots)) slots order e in
    stack_case (stack_fault (stack items end order)) (stack items end order) (λ none.
    record { history = IsHistory-fault (stack items end order) none; few = few; modules = subst (All IsOfModule) same.1 h })

items_case : (all : List Item) (end : ℕ) (slots : List Slot) (r : Result (List Item) ScriptFault) → few_items all ≡ r → All IsOfModule slots
    → IfOk (r >>= λ items. order_of slots >>= λ order. stack_of (stack items end order)) IsOpening
items_case all end slots (Err f) e h = tt
items_case all end slots (Ok items) e h = order_case items end slots (order_of slots) refl (few_kept all items e) h

opening_case : (s : Stated) (r : Result (List Item) ScriptFault) → IsOfModules s
    → IfOk (r >>= λ all. few_items all >>= λ items. order_of s.order >>= λ order. stack_of (stack items s.end order)) IsOpening
opening_case s (Err f) h = tt
opening_case s (Ok all) h = items_case all s.end s.order (few_items all) refl h

opening_of_within : (s : Stated) → IsOfModules s → IfOk (opening_of s) IsOpening
unfolding opening_of
opening_of_within s h = opening_case s (or_param 0 s.items) h

start_modules : All IsOfModule start_slots
start_modules zero d h = omega arith
start_modules (suc zero) d h = omega arith
start_modules (suc (suc zero)) d h = omega arith
start_modules (suc (suc (suc zero))) d h = omega arith
start_modules (suc (suc (suc (suc zero)))) d h = omega arith
start_modules (suc (suc (suc (suc (suc zero))))) d h = omega arith
start_modules (suc (suc (suc (suc (suc (suc zero)))))) d h = omega arith
start_modules (suc (suc (suc (suc (suc (suc (suc zero))))))) d h = omega arith
start_modules (suc (suc (suc (suc (suc (suc (suc (suc k)))))))) d h = absurd (omega (arith, h))

start_within : IsOpening start_history
start_within = record { history = IsHistory-fault start_history refl; few = omega arith; modules = start_modules }

form_case : (o : Option Stated) → IfSome o IsOfModules → IfOk (or_form 0 o >>= opening_of) IsOpening
form_case None h = tt
form_case (Some s) h = opening_of_within s h

ok_case : (r : Result Stack ScriptFault) (h : Stack) → IfOk r IsOpening → r ≡ Ok h → IsOpening h
ok_case (Ok g) h o e = let same : g ≡ h = cc in subst IsOpening same o
ok_case (Err f) h o e = cc

pub opening_within : (o : Option Data) → IfOk (opening_at o) IsOpening
opening_within None = start_within
opening_within (Some d) = form_case (history_form d) (history_few d)

-- the opening history that is read may begin a script
pub opening_on_ok : (o : Option Data) (r : Result Stack ScriptEnd) → IsReadAs (λ h. h) r (opening_at o) → IfOk r IsOpening
opening_on_ok o (Ok h) read = ok_case (opening_at o) h (opening_within o) read
opening_on_ok o (Err end) read = tt
