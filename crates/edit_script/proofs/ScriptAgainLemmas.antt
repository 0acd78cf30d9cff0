-- What is written for a script is read as the script.
use Rattle.std.proofs.Common.{◌≡◌, ℕ, ◌+◌, ◌≤◌, false, List, [], ◌∷◌, ◌++◌, length, map, Option, Some, None, option_map, Result, Ok, refl, sym, ap, ◌∙◌, arith, append_assoc, append-nil, zero, suc}
use Rattle.std.specs.Prelude.{nat_lt}
use Rattle.std.specs.List.{All}
use Rattle.std.specs.Option.{option_or}
use Rattle.std.proofs.lemmas.Bool.Decides.{nat_tests}
use Rattle.serde_json.specs.Data.{Items}
use Rattle.serde_json.specs.View.{items_of}
use Rattle.params.specs.declared.fault.ParamFault.{ParamFault}
use Rattle.params.specs.Names.{number_of, last_number}
use Rattle.params.specs.declared.modules.Module.TheVariants as modules
use Rattle.params.proofs.NameLemmas.{number_at}
use Rattle.module_order.specs.declared.slots.Slot.{Slot}
use Rattle.module_order.specs.Order.{IsOrder}
use Rattle.module_order.specs.Faults.{unless}
use Rattle.module_order.proofs.FaultLemmas.{order_fault-none}
use Rattle.history.specs.declared.items.Item.{Item}
use Rattle.history.specs.Stack.{Stack, stack}
use Rattle.history.proofs.HistoryLemmas.{stack_fault-none}
use Rattle.edit_steps.specs.declared.fault.ScriptFault.{ScriptFault}
use Rattle.edit_steps.specs.declared.settings.Settings.{Settings}
use Rattle.edit_steps.specs.declared.step.Step.{Step}
use Rattle.edit_steps.specs.Ranges.{IsOpening, IsStepWithin}
use Rattle.edit_steps.specs.Faults.{next_fault, steps_fault}
use Rattle.edit_steps.specs.Script.{Recipe, recipe, with_step, IsScript}
use Rattle.edit_script.specs.Binds.{◌>>=◌}
use Rattle.edit_script.specs.Opening.{Stated, items_form, slot_form, slots_form, all_kept, kept_items, history_form}
use Rattle.edit_script.specs.Step.{step_form}
use Rattle.edit_script.specs.Script.{or_form, or_param, few_items, order_of, stack_of, opening_of, opening_at, step_behind, steps_behind, script_in}
use Rattle.edit_script.specs.Written.{module_numbered, slot_data, item_data, history_data, step_data, script_data}
use Rattle.edit_script.specs.Typed.{IsItemTyped, IsHistoryTyped, IsStepTyped, IsTyped}
use Rattle.edit_script.proofs.AgainLemmas.{natural_back, module_back, settings_back, item_back, step_back}

-- ---- lists

pub all_head : {X : Type 0} (P : X → Type 0) (x : X) (xs : List X) → All P (x ∷ xs) → P x
all_head P x xs h = h 0 x (omega arith)

pub all_tail : {X : Type 0} (P : X → Type 0) (x : X) (xs : List X) → All P (x ∷ xs) → All P xs
all_tail P x xs h k d less = h (suc k) d (omega (arith, less))

-- ---- the order

slot_back : (s : Slot) → s.module ≤ last_number → s.instance ≤ 255 → slot_form (slot_data s) ≡ Some s
unfolding slot_form
slot_back s h k =
    rw (module_back (module_numbered s.module), natural_back 0 255 s.instance (omega arith) k (omega (arith, k)))
    (λ i. Some (record { «module» = number_at s.module modules.ToneCurve h i; instance = s.instance }))

slots_back : (order : List Slot) → All (λ s. s.module ≤ last_number) order → All (λ s. s.instance ≤ 255) order → slots_form (items_of (map slot_data order)) ≡ Some order
slots_back [] h k = refl
slots_back (s ∷ ss) h k =
    rw (
      slot_back s (all_head (λ s. s.module ≤ last_number) s ss h) (all_head (λ s. s.instance ≤ 255) s ss k),
      slots_back ss (all_tail (λ s. s.module ≤ last_number) s ss h) (all_tail (λ s. s.instance ≤ 255) s ss k),
    ) refl

-- ---- items

items_back : (items : List Item) → All IsItemTyped items → items_form (items_of (map item_data items)) ≡ Some (map (λ i. Ok i) items)
items_back [] h = refl
items_back (i ∷ is) h = rw (item_back i (all_head IsItemTyped i is h), items_back is (all_tail IsItemTyped i is h)) refl

all_back : (items : List Item) → all_kept (map (λ i. Ok i) items) ≡ Ok items
all_back [] = refl
all_back (i ∷ is) = rw (all_back is) refl

kept_back : (items : List Item) → All IsItemTyped items → kept_items (items_of (map item_data items)) ≡ Some (Ok items)
kept_back items h = ap (option_map all_kept) (items_back items h) ∙ ap Some (all_back items)

-- ---- the opening history

stated : Stack → Stated
stated h = record { items = Ok h.items; end = h.end; order = h.order }

history_back : (h : Stack) → IsOpening h → IsHistoryTyped h → history_form (history_data h) ≡ Some (stated h)
unfolding history_form history_data stated
history_back h o t =
    let few : h.end ≤ 256 = omega (arith, o.few, o.history.end) in
    rw (kept_back h.items t.items, natural_back 0 65535 h.end (omega arith) (omega (arith, few)) (omega (arith, few)), slots_back h.order o.modules t.order.instances) refl

few_back : (items : List Item) → length items ≤ 256 → few_items items ≡ Ok items
few_back items h = let small : nat_lt 256 (length items) ≡ false = grind (arith, nat_tests) in rw small refl

opening_chain : (h : Stack) (few : Result (List Item) ScriptFault) (order : Result (List Slot) ScriptFault) → few ≡ Ok h.items → order ≡ Ok h.order → stack_of h ≡ Ok h
    → few >>= (λ items. order >>= λ order. stack_of (stack items h.end order)) ≡ Ok h
opening_chain h few order e f g = rw (e, f) g

opening_of_back : (h : Stack) → IsOpening h → IsOrder h.order → opening_of (stated h) ≡ Ok h
unfolding opening_of stated
opening_of_back h o k =
    opening_chain h (few_items h.items) (order_of h.order) (few_back h.items o.few) (rw (order_fault-none h.order k) refl) (rw (stack_fault-none h o.history) refl)

opening_back : (h : Stack) → IsOpening h → IsHistoryTyped h → opening_at (Some (history_data h)) ≡ Ok h
opening_back h o t = ap (λ s. or_form 0 s >>= opening_of) (history_back h o t) ∙ opening_of_back h o t.order.valid

-- ---- steps

none_both : (a b : Option ScriptFault) → option_or a b ≡ None → (a ≡ None) × (b ≡ None)
none_both None b e = (refl, e)
none_both (Some f) b e = cc

step_chain : (r : Recipe) (s : Step) (a : Result (Result Step ParamFault) ScriptFault) → a ≡ Ok (Ok s) → next_fault r.settings r.opening r.steps s ≡ None
    → a >>= (λ formed. or_param (length r.steps + 1) formed >>= λ step. unless (next_fault r.settings r.opening r.steps step) (with_step r step)) ≡ Ok (with_step r s)
step_chain r s a e f = rw (e, f) refl

step_behind_back : (r : Recipe) (s : Step) → IsStepWithin s → IsStepTyped s → next_fault r.settings r.opening r.steps s ≡ None → step_behind r (step_data s) ≡ Ok (with_step r s)
unfolding step_behind
step_behind_back r s h t e = step_chain r s (or_form (length r.steps + 1) (step_form (step_data s))) (ap (or_form (length r.steps + 1)) (step_back s h t)) e

steps_back : (settings : Settings) (opening : Stack) (before steps : List Step) → All IsStepWithin steps → All IsStepTyped steps → steps_fault settings opening before steps ≡ None
    → steps_behind (recipe settings opening before) (items_of (map step_data steps)) ≡ Ok (recipe settings opening (before ++ steps))
steps_back settings opening before [] h t e = ap (λ ss. Ok (recipe settings opening ss)) (sym (append-nil before))
steps_back settings opening before (s ∷ ss) h t e =
    let both = none_both (next_fault settings opening before s) (steps_fault settings opening (before ++ s ∷ []) ss) e in
    let one = step_behind_back (recipe settings opening before) s (all_head IsStepWithin s ss h) (all_head IsStepTyped s ss t) both.0 in
    let rest = steps_back settings opening (before ++ s ∷ []) ss (all_tail IsStepWithin s ss h) (all_tail IsStepTyped s ss t) both.1 in
    ap (λ r. r >>= λ next. steps_behind next (items_of (map step_data ss))) one ∙ rest ∙ ap (λ ss. Ok (recipe settings opening ss)) (append_assoc before (s ∷ []) ss)

-- ---- the whole

whole_chain : (r : Recipe) (items : Items) (settings : Result Settings ScriptFault) (opening : Result Stack ScriptFault) → settings ≡ Ok r.settings → opening ≡ Ok r.opening
    → steps_behind (recipe r.settings r.opening []) items ≡ Ok r
    → settings >>= (λ settings. opening >>= λ opening. steps_behind (recipe settings opening []) items) ≡ Ok r
whole_chain r items settings opening e f g = rw (e, f) g

pub script_back : (r : Recipe) → IsScript r → IsTyped r → script_in (script_data r) ≡ Ok r
unfolding script_in script_data
script_back r h t =
    whole_chain r (items_of (map step_data r.steps)) _ (opening_at (Some (history_data r.opening))) (ap (or_form 0) (settings_back r.settings h.settings)) (opening_back r.opening h.opening t.opening)
    (steps_back r.settings r.opening [] r.steps h.within t.steps h.allowed)
