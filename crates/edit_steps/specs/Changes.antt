-- Changes, and what stands behind them.
use Rattle.std.specs.Prelude.{Bool, true, false, is_some, List, [], ◌∷◌, Option, Some, None}
use Rattle.std.specs.List.{filter, list_any}
use Rattle.px.specs.declared.view.View.{View}
use Rattle.undo_stack.specs.Undoing.{Undoing, start, changed, undone, redone}
use Rattle.history.specs.declared.changes.Kind.{Kind}
use Rattle.history.specs.declared.changes.Kind.TheVariants as kind
use Rattle.history.specs.declared.changes.Kinds.{Kinds}
use Rattle.history.specs.Stack.{Stack}
use Rattle.history.specs.After.{after, kind_of}
use Rattle.edit_steps.specs.declared.change.Scope.{Scope}
use Rattle.edit_steps.specs.declared.change.Scope.TheVariants as scopes
use Rattle.edit_steps.specs.declared.settings.Settings.{Settings}
use Rattle.edit_steps.specs.declared.step.Step.{Step}
use Rattle.edit_steps.specs.declared.step.Step.TheVariants as steps

-- what a step is a change of, where it makes a new moment
abbrev pub scope_of : Step → Option Scope
scope_of (steps.Edit edit) = Some scopes.History
scope_of steps.Undo = Some scopes.History
scope_of steps.Redo = Some scopes.History
scope_of (steps.View view) = Some scopes.View
scope_of (steps.Second view) = Some scopes.Second
scope_of (steps.Export size depth) = None
scope_of (steps.Thumbnail size) = None
scope_of steps.Settle = None

-- whether the step makes a new moment: edits, undos, redos, views and second views do
abbrev pub is_change : Step → Bool
is_change step = is_some (scope_of step)

-- the changes among the steps, in their order
abbrev pub changes_of : List Step → List Step
changes_of all = filter is_change all

-- ---- histories: the one that stands, those before it and those that were taken back

abbrev pub Histories : Type 0
Histories = Undoing Stack

-- what a script begins with: its opening history, nothing to undo and nothing to redo
abbrev pub first_histories : Settings → Stack → Histories
first_histories s h = start h s.undo_depth

-- the histories behind a step
abbrev pub histories_behind : Histories → Step → Histories
histories_behind hs (steps.Edit edit) = changed hs (after hs.present edit)
histories_behind hs steps.Undo = undone hs
histories_behind hs steps.Redo = redone hs
histories_behind hs (steps.View view) = hs
histories_behind hs (steps.Second view) = hs
histories_behind hs (steps.Export size depth) = hs
histories_behind hs (steps.Thumbnail size) = hs
histories_behind hs steps.Settle = hs

-- the histories behind all the steps
abbrev pub histories_after : Histories → List Step → Histories
histories_after hs [] = hs
histories_after hs (s ∷ ss) = histories_after (histories_behind hs s) ss

-- ---- views

-- the view behind a step
abbrev pub view_behind : View → Step → View
view_behind v (steps.View view) = view
view_behind v _ = v

-- the view behind all the steps
abbrev pub view_after : View → List Step → View
view_after v [] = v
view_after v (s ∷ ss) = view_after (view_behind v s) ss

-- the second window's view, where there is that window
abbrev pub other_view : Option View → View → Option View
other_view None view = None
other_view (Some v) view = Some view

-- the second view behind a step
abbrev pub second_behind : Option View → Step → Option View
second_behind w (steps.Second view) = other_view w view
second_behind w _ = w

-- the second view behind all the steps
abbrev pub second_after : Option View → List Step → Option View
second_after w [] = w
second_after w (s ∷ ss) = second_after (second_behind w s) ss

-- ---- kinds

-- the kind of a change of these histories: a view leaves them
abbrev pub change_kind : Histories → Step → Kind
change_kind hs (steps.Edit edit) = kind_of hs.present edit
change_kind hs steps.Undo = kind.Remove
change_kind hs steps.Redo = kind.Remove
change_kind hs _ = kind.Zoomed

-- the kinds of the changes, one after the other
abbrev pub kinds_along : Histories → List Step → List Kind
kinds_along hs [] = []
kinds_along hs (s ∷ ss) = change_kind hs s ∷ kinds_along (histories_behind hs s) ss

abbrev pub is_top : Kind → Bool
is_top kind.Top = true
is_top _ = false

abbrev pub is_synch : Kind → Bool
is_synch kind.Synch = true
is_synch _ = false

abbrev pub is_remove : Kind → Bool
is_remove kind.Remove = true
is_remove _ = false

abbrev pub is_zoomed : Kind → Bool
is_zoomed kind.Zoomed = true
is_zoomed _ = false

-- the kinds of a list, as a set
abbrev pub kinds_in : List Kind → Kinds
kinds_in ks = record { top = list_any is_top ks; synch = list_any is_synch ks; remove = list_any is_remove ks; zoomed = list_any is_zoomed ks }
