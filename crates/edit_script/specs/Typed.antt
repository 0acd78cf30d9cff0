-- What a script's values are beyond its ranges, since their types say so: an array of three or nine numbers has as many, an
-- instance is at most 255, and an order is one.
use Rattle.std.specs.Prelude.{◌≡◌, ◌≤◌, ⊤, List, Ok}
use Rattle.std.specs.List.{All}
use Rattle.params.specs.Ranges.{IsWithin, module_of, check_blend_of}
use Rattle.module_order.specs.declared.slots.Slot.{Slot}
use Rattle.module_order.specs.Order.{IsOrder}
use Rattle.history.specs.declared.items.Item.{Item}
use Rattle.history.specs.declared.edits.Edit.{Edit}
use Rattle.history.specs.declared.edits.Edit.TheVariants as edits
use Rattle.history.specs.Stack.{Stack}
use Rattle.edit_steps.specs.declared.step.Step.{Step}
use Rattle.edit_steps.specs.declared.step.Step.TheVariants as steps
use Rattle.edit_steps.specs.Script.{Recipe}

-- an item whose settings are within their ranges, and whose blend has no fault at its module
pub record IsItemTyped (i : Item) : Type 0 where
  pub params : IsWithin i.params
  pub blend : check_blend_of (module_of i.params) i.blend ≡ Ok tt
  pub instance : i.instance ≤ 255

-- an order whose instances are numbers of eight bits
pub record IsOrderTyped (order : List Slot) : Type 0 where
  pub valid : IsOrder order
  pub instances : All (λ s. s.instance ≤ 255) order

pub record IsHistoryTyped (h : Stack) : Type 0 where
  pub items : All IsItemTyped h.items
  pub order : IsOrderTyped h.order

abbrev pub IsEditTyped : Edit → Type 0
IsEditTyped (edits.Set item) = IsItemTyped item
IsEditTyped (edits.Select end) = ⊤
IsEditTyped edits.Compress = ⊤
IsEditTyped (edits.Add m instance place) = instance ≤ 255
IsEditTyped (edits.Delete m instance) = instance ≤ 255
IsEditTyped (edits.Move m instance place) = instance ≤ 255

abbrev pub IsStepTyped : Step → Type 0
IsStepTyped (steps.Edit edit) = IsEditTyped edit
IsStepTyped _ = ⊤

pub record IsTyped (r : Recipe) : Type 0 where
  pub opening : IsHistoryTyped r.opening
  pub steps : All IsStepTyped r.steps
