-- What a script keeps of each of its changes.
use Rattle.std.specs.Prelude.{◌≡◌, List, [], ◌∷◌, ◌++◌, Option, Some, None}
use Rattle.px.specs.declared.view.View.{View}
use Rattle.history.specs.declared.changes.Kind.{Kind}
use Rattle.edit_steps.specs.declared.change.Change.{Change}
use Rattle.edit_steps.specs.declared.change.Scope.{Scope}
use Rattle.edit_steps.specs.declared.step.Step.{Step}
use Rattle.edit_steps.specs.Changes.{scope_of, Histories, first_histories, histories_behind, histories_after, view_behind, view_after, second_behind, second_after, change_kind}
use Rattle.edit_steps.specs.Script.{Recipe, IsScript}

-- what is kept of a step of this scope: nothing, unless it is a change
abbrev pub kept_as : Kind → View → Option View → Option Scope → List Change
kept_as kind view second None = []
kept_as kind view second (Some scope) = record { kind = kind; scope = scope; view = view; second = second } ∷ []

-- what is kept of a step behind these histories and views
abbrev pub kept_of : Histories → View → Option View → Step → List Change
kept_of hs v w s = kept_as (change_kind hs s) (view_behind v s) (second_behind w s) (scope_of s)

-- what is kept of the steps, one after the other
abbrev pub kept_along : Histories → View → Option View → List Step → List Change
kept_along hs v w [] = []
kept_along hs v w (s ∷ ss) = kept_of hs v w s ++ kept_along (histories_behind hs s) (view_behind v s) (second_behind w s) ss

-- a valid script, and what is kept of it
pub record IsKept (r : Recipe) (kept : List Change) : Type 0 where
  pub script : IsScript r
  pub kept_is : kept ≡ kept_along (first_histories r.settings r.opening) r.settings.view r.settings.second r.steps

-- the histories and the views behind all the steps
pub record StandsBehind (r : Recipe) (histories : Histories) (view : View) (second : Option View) : Type 0 where
  pub histories_are : histories ≡ histories_after (first_histories r.settings r.opening) r.steps
  pub view_is : view ≡ view_after r.settings.view r.steps
  pub second_is : second ≡ second_after r.settings.second r.steps
