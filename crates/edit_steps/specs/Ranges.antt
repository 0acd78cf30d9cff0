-- The ranges of what a script holds.
use Rattle.std.specs.Prelude.{◌≡◌, ◌*◌, ◌≤◌, ⊤, length, None, IfSome}
use Rattle.std.specs.List.{All}
use Rattle.px.specs.declared.view.View.{View}
use Rattle.px.specs.declared.view.BoxSize.{BoxSize}
use Rattle.params.specs.Names.{last_number}
use Rattle.history.specs.declared.edits.Edit.{Edit}
use Rattle.history.specs.declared.edits.Edit.TheVariants as edits
use Rattle.history.specs.Stack.{Stack}
use Rattle.history.specs.History.{IsHistory}
use Rattle.history.specs.Faults.{values_fault}
use Rattle.edit_steps.specs.declared.settings.Settings.{Settings}
use Rattle.edit_steps.specs.declared.step.Step.{Step}
use Rattle.edit_steps.specs.declared.step.Step.TheVariants as steps

-- what a window can show
pub record IsView (v : View) : Type 0 where
  pub some_factor : 1 ≤ v.factor
  pub small_factor : v.factor ≤ 64
  pub across : v.cx ≤ 65536
  pub down : v.cy ≤ 65536
  pub wide : 1 ≤ v.w
  pub not_too_wide : v.w ≤ 16384
  pub high : 1 ≤ v.h
  pub not_too_high : v.h ≤ 16384
  pub small : v.w * v.h ≤ 786432

-- sides that an export may have to fit in
pub record IsBox (b : BoxSize) : Type 0 where
  pub wide : 1 ≤ b.w
  pub not_too_wide : b.w ≤ 16384
  pub high : 1 ≤ b.h
  pub not_too_high : b.h ≤ 16384

-- sides that a thumbnail may have to fit in
pub record IsThumbnailBox (b : BoxSize) : Type 0 where
  pub wide : 1 ≤ b.w
  pub not_too_wide : b.w ≤ 720
  pub high : 1 ≤ b.h
  pub not_too_high : b.h ≤ 720

-- settings of a session
pub record IsSettings (s : Settings) : Type 0 where
  pub some_side : 64 ≤ s.preview_side
  pub small_side : s.preview_side ≤ 720
  pub some_workers : 1 ≤ s.workers
  pub few_workers : s.workers ≤ 4
  pub some_entries : 1 ≤ s.stage_entries
  pub few_entries : s.stage_entries ≤ 64
  pub few_pixels : s.stage_pixels ≤ 33554432
  pub some_slots : 1 ≤ s.mip_slots
  pub few_slots : s.mip_slots ≤ 4
  pub some_undo : 1 ≤ s.undo_depth
  pub small_undo : s.undo_depth ≤ 64
  pub view : IsView s.view
  pub second : IfSome s.second IsView

-- a history that a script may begin with: at most 256 items, and an order of the eight modules' instances
pub record IsOpening (h : Stack) : Type 0 where
  pub history : IsHistory h
  pub few : length h.items ≤ 256
  pub modules : All (λ s. s.module ≤ last_number) h.order

-- the numbers of an edit are ones that a script can hold: an item's values are within their ranges, and there is no blend on
-- a module that doesn't blend
abbrev pub IsEditWithin : Edit → Type 0
IsEditWithin (edits.Set item) = values_fault item ≡ None
IsEditWithin (edits.Select end) = end ≤ 65535
IsEditWithin edits.Compress = ⊤
IsEditWithin (edits.Add m instance place) = place ≤ 65535
IsEditWithin (edits.Delete m instance) = ⊤
IsEditWithin (edits.Move m instance place) = place ≤ 65535

-- the numbers of a step are within their ranges
abbrev pub IsStepWithin : Step → Type 0
IsStepWithin (steps.Edit edit) = IsEditWithin edit
IsStepWithin steps.Undo = ⊤
IsStepWithin steps.Redo = ⊤
IsStepWithin (steps.View view) = IsView view
IsStepWithin (steps.Second view) = IsView view
IsStepWithin (steps.Export size depth) = IfSome size IsBox
IsStepWithin (steps.Thumbnail size) = IsThumbnailBox size
IsStepWithin steps.Settle = ⊤
