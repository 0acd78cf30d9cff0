-- No script is refused because an edit holds values outside their ranges: these are faults of their own, and come first.
use Rattle.std.proofs.Common.{◌≡◌, ℕ, ◌+◌, List, [], ◌∷◌, length, Bool, true, false, not, Option, Some, None, option_map, Result, Ok, Err, IfSome, IfErr, refl, ap, subst, ◌∙◌, codes}
use Rattle.std.specs.Prelude.{nat_lt, nat_le, is_some, count_by, slice_get, if◌then◌else◌}
use Rattle.std.specs.List.{All, filter_map, cons_option}
use Rattle.std.specs.Option.{option_or}
use Rattle.serde_json.specs.Data.{Data, Items, no_items, item}
use Rattle.serde_json.specs.Find.{get}
use Rattle.params.specs.declared.fault.ParamFault.{ParamFault}
use Rattle.params.specs.Names.{number_of}
use Rattle.params.specs.Ranges.{module_of}
use Rattle.json_form.specs.declared.text.TextEnd.{TextEnd}
use Rattle.json_form.specs.declared.text.TextEnd.TheVariants as texts
use Rattle.json_form.specs.Text.{text_of}
use Rattle.module_order.specs.declared.slots.Slot.{Slot}
use Rattle.module_order.specs.declared.fault.OrderFault.{OrderFault}
use Rattle.module_order.specs.declared.fault.OrderFault.TheVariants as orders
use Rattle.module_order.specs.Slot.{slot, has_slot}
use Rattle.module_order.specs.Faults.{find_map, unless, order_fault, insert_fault, remove_fault, move_fault}
use Rattle.history.specs.declared.items.Item.{Item}
use Rattle.history.specs.declared.edits.Edit.{Edit}
use Rattle.history.specs.declared.edits.Edit.TheVariants as edits
use Rattle.history.specs.declared.fault.EditFault.{EditFault}
use Rattle.history.specs.declared.fault.EditFault.TheVariants as faults
use Rattle.history.specs.Item.{slot_of}
use Rattle.history.specs.Stack.{Stack, stack}
use Rattle.history.specs.Faults.{is_demosaic, values_fault, item_fault, end_fault, stack_fault, of_order, edit_fault}
use Rattle.edit_steps.specs.declared.fault.Reason.{Reason}
use Rattle.edit_steps.specs.declared.fault.Reason.TheVariants as reasons
use Rattle.edit_steps.specs.declared.fault.ScriptFault.{ScriptFault}
use Rattle.edit_steps.specs.declared.fault.ScriptEnd.{ScriptEnd}
use Rattle.edit_steps.specs.declared.fault.ScriptEnd.TheVariants as ends
use Rattle.edit_steps.specs.declared.step.Step.{Step}
use Rattle.edit_steps.specs.declared.step.Step.TheVariants as steps
use Rattle.edit_steps.specs.declared.settings.Settings.{Settings}
use Rattle.edit_steps.specs.Changes.{is_change, Histories, first_histories, histories_after}
use Rattle.edit_steps.specs.Faults.{is_export, is_thumbnail, is_settle, limit_fault, window_fault, unless_some, history_fault, step_fault, next_fault, fault_behind}
use Rattle.edit_steps.specs.Ranges.{IsEditWithin, IsStepWithin}
use Rattle.edit_steps.specs.Script.{Recipe, recipe, with_step}
use Rattle.edit_script.specs.Binds.{◌>>=◌}
use Rattle.edit_script.specs.Opening.{Stated, history_form}
use Rattle.edit_script.specs.Step.{step_form}
use Rattle.edit_script.specs.Settings.{settings_in}
use Rattle.edit_script.specs.Reads.{IsReadAs, is_bad_edit, is_bad_params, HasNoBadParams, EndsWithoutBadParams}
use Rattle.edit_script.specs.Script.{fault_at, or_form, or_param, or_text, unless_edit, few_items, order_of, stack_of, opening_of, opening_at, step_behind, steps_behind, steps_in, script_in, script_of}
use Rattle.edit_script.proofs.StepLemmas.{IsItem}
use Rattle.edit_script.proofs.KeptLemmas.{IsKept, HasKept, history_kept}
use Rattle.edit_script.proofs.ReadLemmas.{step_on_ok}
use Rattle.edit_script.proofs.ScriptAgainLemmas.{all_head, all_tail}

-- ---- chains

then_own : {A B : Type 0} (r : Result A ScriptFault) (f : A → Result B ScriptFault) → IfErr r HasNoBadParams → ((a : A) → r ≡ Ok a → IfErr (f a) HasNoBadParams) → IfErr (r >>= f) HasNoBadParams
then_own (Ok a) f h k = k a refl
then_own (Err e) f h k = h

form_own : {A : Type 0} (step : ℕ) (o : Option A) → IfErr (or_form step o) HasNoBadParams
form_own step None = refl
form_own step (Some x) = tt

param_own : {A : Type 0} (step : ℕ) (r : Result A ParamFault) → IfErr (or_param step r) HasNoBadParams
param_own step (Ok x) = tt
param_own step (Err f) = refl

form_is : {A : Type 0} (step : ℕ) (o : Option A) (x : A) → or_form step o ≡ Ok x → o ≡ Some x
form_is step None x e = cc
form_is step (Some y) x e = cc

param_is : {A : Type 0} (step : ℕ) (r : Result A ParamFault) (x : A) → or_param step r ≡ Ok x → r ≡ Ok x
param_is step (Ok y) x e = cc
param_is step (Err f) x e = cc

-- ---- edits and items

-- the fault isn't of values
abbrev IsOther : EditFault → Type 0
IsOther fault = is_bad_params fault ≡ false

or_other : (a b : Option EditFault) → IfSome a IsOther → IfSome b IsOther → IfSome (option_or a b) IsOther
or_other None b h k = k
or_other (Some e) b h k = h

end_other : (b : Bool) → IfSome (if b then Some faults.EndPast else None) IsOther
end_other true = refl
end_other false = tt

of_order_other : (o : Option OrderFault) → IfSome (option_map of_order o) IsOther
of_order_other None = tt
of_order_other (Some orders.Full) = refl
of_order_other (Some orders.Rule) = refl
of_order_other (Some orders.Fixed) = refl
of_order_other (Some orders.Taken) = refl
of_order_other (Some orders.Missing) = refl

item_case : (fixed known : Bool) (values : Option ParamFault) → values ≡ None
    → IfSome (if fixed then Some faults.FixedModule else (if not known then Some faults.NoInstance else option_map faults.BadParams values)) IsOther
item_case true known values e = refl
item_case false false values e = refl
item_case false true None e = tt
item_case false true (Some f) e = cc

item_other : (order : List Slot) (x : Item) → IsItem x → IfSome (item_fault order x) IsOther
item_other order x h = item_case (is_demosaic (module_of x.params)) (has_slot order (slot_of x)) (values_fault x) h

first_other : (o : Option EditFault) (rest : List EditFault) → IfSome o IsOther → IfSome (slice_get rest 0) IsOther → IfSome (slice_get (cons_option o rest) 0) IsOther
first_other None rest h k = k
first_other (Some e) rest h k = h

items_other : (order : List Slot) (xs : List Item) → All IsItem xs → IfSome (find_map (item_fault order) xs) IsOther
items_other order [] h = tt
items_other order (x ∷ xs) h =
    first_other (item_fault order x) (filter_map (item_fault order) xs) (item_other order x (all_head IsItem x xs h)) (items_other order xs (all_tail IsItem x xs h))

stack_other : (h : Stack) → All IsItem h.items → IfSome (stack_fault h) IsOther
stack_other h all = or_other (find_map (item_fault h.order) h.items) (end_fault h.items h.end) (items_other h.order h.items all) (end_other (nat_lt (length h.items) h.end))

edit_other : (h : Stack) (e : Edit) → IsEditWithin e → IfSome (edit_fault h e) IsOther
edit_other h (edits.Set x) w = item_other h.order x w
edit_other h (edits.Select end) w = end_other (nat_lt (length h.items) end)
edit_other h edits.Compress w = tt
edit_other h (edits.Add m instance place) w = of_order_other (insert_fault h.order (slot (number_of m) instance) place)
edit_other h (edits.Delete m instance) w = of_order_other (remove_fault h.order (slot (number_of m) instance))
edit_other h (edits.Move m instance place) w = of_order_other (move_fault h.order (slot (number_of m) instance) place)

-- ---- the opening history

edit_own : {A : Type 0} (o : Option EditFault) (x : A) → IfSome o IsOther → IfErr (unless_edit o x) HasNoBadParams
edit_own None x h = tt
edit_own (Some e) x h = h

few_case : (b : Bool) (all : List Item) → IfErr (if b then Err (fault_at 0 reasons.TooManyChanges) else Ok all) HasNoBadParams
few_case true all = refl
few_case false all = tt

few_is : (b : Bool) (all items : List Item) → (if b then Err (fault_at 0 reasons.TooManyChanges) else Ok all) ≡ Ok items → all ≡ items
few_is true all items e = cc
few_is false all items e = cc

kept_all : (r : Result (List Item) ParamFault) (all : List Item) → IsKept r → r ≡ Ok all → All IsItem all
kept_all (Ok is) all h e = let same : is ≡ all = cc in subst (All IsItem) same h
kept_all (Err f) all h e = cc

opening_own : (s : Stated) → HasKept s → IfErr (opening_of s) HasNoBadParams
unfolding opening_of
opening_own s h =
    then_own (or_param 0 s.items) (λ all. few_items all >>= λ items. order_of s.order >>= λ order. stack_of (stack items s.end order)) (param_own 0 s.items) (λ all e.
    then_own (few_items all) (λ items. order_of s.order >>= λ order. stack_of (stack items s.end order)) (few_case (nat_lt 256 (length all)) all) (λ items f.
    then_own (order_of s.order) (λ order. stack_of (stack items s.end order)) (edit_own (option_map of_order (order_fault s.order)) s.order (of_order_other (order_fault s.order))) (λ order g.
    let kept = kept_all s.items all h (param_is 0 s.items all e) in
    let same : all ≡ items = few_is (nat_lt 256 (length all)) all items f in
    edit_own (stack_fault (stack items s.end order)) (stack items s.end order) (stack_other (stack items s.end order) (subst (All IsItem) same kept)))))

history_case : (o : Option Stated) → IfSome o HasKept → IfErr (or_form 0 o >>= opening_of) HasNoBadParams
history_case None h = refl
history_case (Some s) h = opening_own s h

opening_at_own : (o : Option Data) → IfErr (opening_at o) HasNoBadParams
opening_at_own None = tt
opening_at_own (Some d) = history_case (history_form d) (history_kept d)

-- ---- steps

-- the reason isn't values of an edit
abbrev IsOtherReason : Reason → Type 0
IsOtherReason reason = is_bad_edit reason ≡ false

reason_if : (b : Bool) (reason : Reason) → IsOtherReason reason → IfSome (if b then Some reason else None) IsOtherReason
reason_if true reason h = h
reason_if false reason h = tt

limit_other : (before : List Step) (s : Step) → IfSome (limit_fault before s) IsOtherReason
limit_other before (steps.Edit edit) = reason_if (nat_le 256 (count_by is_change before)) reasons.TooManyChanges refl
limit_other before steps.Undo = reason_if (nat_le 256 (count_by is_change before)) reasons.TooManyChanges refl
limit_other before steps.Redo = reason_if (nat_le 256 (count_by is_change before)) reasons.TooManyChanges refl
limit_other before (steps.View view) = reason_if (nat_le 256 (count_by is_change before)) reasons.TooManyChanges refl
limit_other before (steps.Second view) = reason_if (nat_le 256 (count_by is_change before)) reasons.TooManyChanges refl
limit_other before (steps.Export size depth) = reason_if (nat_le 8 (count_by is_export before)) reasons.TooManyExports refl
limit_other before (steps.Thumbnail size) = reason_if (nat_le 16 (count_by is_thumbnail before)) reasons.TooManyThumbnails refl
limit_other before steps.Settle = reason_if (nat_le 256 (count_by is_settle before)) reasons.TooManySettles refl

edit_reason : (o : Option EditFault) → IfSome o IsOther → IfSome (option_map reasons.Edit o) IsOtherReason
edit_reason None h = tt
edit_reason (Some e) h = h

no_window_if : (there : Bool) → IfSome (if there then None else Some reasons.NoSecond) IsOtherReason
no_window_if true = tt
no_window_if false = refl

window_other : (settings : Settings) (s : Step) → IfSome (window_fault settings s) IsOtherReason
window_other settings (steps.Edit edit) = tt
window_other settings steps.Undo = tt
window_other settings steps.Redo = tt
window_other settings (steps.View view) = tt
window_other settings (steps.Second view) = no_window_if (is_some settings.second)
window_other settings (steps.Export size depth) = tt
window_other settings (steps.Thumbnail size) = tt
window_other settings steps.Settle = tt

unless_other : (reason : Reason) (hs : List Stack) → IsOtherReason reason → IfSome (unless_some reason hs) IsOtherReason
unless_other reason [] h = h
unless_other reason (x ∷ xs) h = tt

history_other : (hs : Histories) (s : Step) → IsStepWithin s → IfSome (history_fault hs s) IsOtherReason
history_other hs (steps.Edit edit) w = edit_reason (edit_fault hs.present edit) (edit_other hs.present edit w)
history_other hs steps.Undo w = unless_other reasons.NothingToUndo hs.past refl
history_other hs steps.Redo w = unless_other reasons.NothingToRedo hs.future refl
history_other hs (steps.View view) w = tt
history_other hs (steps.Second view) w = tt
history_other hs (steps.Export size depth) w = tt
history_other hs (steps.Thumbnail size) w = tt
history_other hs steps.Settle w = tt

or_reason : (a b : Option Reason) → IfSome a IsOtherReason → IfSome b IsOtherReason → IfSome (option_or a b) IsOtherReason
or_reason None b h k = k
or_reason (Some r) b h k = h

behind_own : {A : Type 0} (before : List Step) (o : Option Reason) (x : A) → IfSome o IsOtherReason → IfErr (unless (option_map (fault_behind before) o) x) HasNoBadParams
behind_own before None x h = tt
behind_own before (Some r) x h = h

step_own : (r : Recipe) (d : Data) → IfErr (step_behind r d) HasNoBadParams
unfolding step_behind
step_own r d =
    then_own (or_form (length r.steps + 1) (step_form d)) (λ formed. or_param (length r.steps + 1) formed >>= λ step. unless (next_fault r.settings r.opening r.steps step) (with_step r step)) (form_own (length r.steps + 1) (step_form d)) (λ formed e.
    then_own (or_param (length r.steps + 1) formed) (λ step. unless (next_fault r.settings r.opening r.steps step) (with_step r step)) (param_own (length r.steps + 1) formed) (λ step f.
    let read : step_form d ≡ Some (Ok step) = form_is (length r.steps + 1) (step_form d) formed e ∙ ap Some (param_is (length r.steps + 1) formed step f) in
    let hs = histories_after (first_histories r.settings r.opening) r.steps in
    behind_own r.steps (step_fault r.settings r.opening r.steps step) (with_step r step)
    (or_reason (limit_fault r.steps step) (option_or (window_fault r.settings step) (history_fault hs step)) (limit_other r.steps step)
    (or_reason (window_fault r.settings step) (history_fault hs step) (window_other r.settings step) (history_other hs step (step_on_ok d step read))))))

steps_own : (r : Recipe) (ds : Items) → IfErr (steps_behind r ds) HasNoBadParams
steps_own r no_items = tt
steps_own r (item d ds) = then_own (step_behind r d) (λ next. steps_behind next ds) (step_own r d) (λ next e. steps_own next ds)

-- ---- the whole

script_in_own : (d : Data) → IfErr (script_in d) HasNoBadParams
unfolding script_in
script_in_own d =
    then_own (or_form 0 (steps_in d)) (λ values. or_form 0 (settings_in d) >>= λ settings. opening_at (get (codes "history") d) >>= λ opening. steps_behind (recipe settings opening []) values) (form_own 0 (steps_in d)) (λ values e.
    then_own (or_form 0 (settings_in d)) (λ settings. opening_at (get (codes "history") d) >>= λ opening. steps_behind (recipe settings opening []) values) (form_own 0 (settings_in d)) (λ settings f.
    then_own (opening_at (get (codes "history") d)) (λ opening. steps_behind (recipe settings opening []) values) (opening_at_own (get (codes "history") d)) (λ opening g. steps_own (recipe settings opening []) values)))

text_own : (r : Result Data TextEnd) → IfErr (or_text r) HasNoBadParams
text_own (Ok d) = tt
text_own (Err texts.TooLong) = refl
text_own (Err texts.Text) = refl
text_own (Err texts.Memory) = refl

script_own : (bytes : List ℕ) → IfErr (script_of bytes) HasNoBadParams
script_own bytes = then_own (or_text (text_of bytes)) script_in (text_own (text_of bytes)) (λ d e. script_in_own d)

err_own : (r : Result Recipe ScriptFault) (f : ScriptFault) → IfErr r HasNoBadParams → r ≡ Err f → HasNoBadParams f
err_own (Ok x) f h e = cc
err_own (Err g) f h e = let same : g ≡ f = cc in subst HasNoBadParams same h

-- what reading a script answers never blames an edit's values
pub read_own : (r : Result Recipe ScriptEnd) (bytes : List ℕ) → IsReadAs (λ s. s) r (script_of bytes) → IfErr r EndsWithoutBadParams
read_own (Ok s) bytes h = tt
read_own (Err (ends.Fault f)) bytes h = err_own (script_of bytes) f (script_own bytes) h
read_own (Err ends.Memory) bytes h = tt
