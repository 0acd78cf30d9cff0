-- Whole scripts, and the moments of a script: how many changes were made.
use Rattle.std.specs.Prelude.{◌≡◌, ℕ, Bool, List, [], ◌∷◌, ◌++◌, length, take, slice_range, Option, None}
use Rattle.std.specs.List.{All, list_any}
use Rattle.px.specs.declared.view.View.{View}
use Rattle.outside.specs.declared.job_name.Pipe.{Pipe}
use Rattle.history.specs.declared.changes.Kind.{Kind}
use Rattle.history.specs.declared.changes.Kinds.{Kinds}
use Rattle.history.specs.Stack.{Stack}
use Rattle.edit_steps.specs.declared.settings.Settings.{Settings}
use Rattle.edit_steps.specs.declared.step.Step.{Step}
use Rattle.edit_steps.specs.Ranges.{IsSettings, IsOpening, IsStepWithin}
use Rattle.edit_steps.specs.Changes.{Histories, changes_of, first_histories, histories_after, view_after, second_after, kinds_along, kinds_in}
use Rattle.edit_steps.specs.Pipes.{concerns}
use Rattle.edit_steps.specs.Faults.{steps_fault}

-- what a script says
pub record Recipe : Type 0 where
  pub settings : Settings
  pub opening : Stack
  pub steps : List Step

abbrev pub recipe : Settings → Stack → List Step → Recipe
recipe settings opening steps = record { settings = settings; opening = opening; steps = steps }

-- the script with a step more
abbrev pub with_step : Recipe → Step → Recipe
with_step r step = recipe r.settings r.opening (r.steps ++ step ∷ [])

-- every value is within its range, and each step may follow those before it
pub record IsScript (r : Recipe) : Type 0 where
  pub settings : IsSettings r.settings
  pub opening : IsOpening r.opening
  pub within : All IsStepWithin r.steps
  pub allowed : steps_fault r.settings r.opening [] r.steps ≡ None

-- how many changes the script makes
abbrev pub changes : Recipe → ℕ
changes r = length (changes_of r.steps)

-- the history after the first m changes
abbrev pub history_at : Recipe → ℕ → Stack
history_at r m = (histories_after (first_histories r.settings r.opening) (take m (changes_of r.steps))).present

-- the view after the first m changes
abbrev pub view_at : Recipe → ℕ → View
view_at r m = view_after r.settings.view (take m (changes_of r.steps))

-- the second view after the first m changes, where there is a second window
abbrev pub second_at : Recipe → ℕ → Option View
second_at r m = second_after r.settings.second (take m (changes_of r.steps))

-- the kind of each change
abbrev pub kinds_of : Recipe → List Kind
kinds_of r = kinds_along (first_histories r.settings r.opening) (changes_of r.steps)

-- the kinds of the changes from + 1 to `to`, as a set
abbrev pub kinds_between : Recipe → ℕ → ℕ → Kinds
kinds_between r from to = kinds_in (slice_range (kinds_of r) from to)

-- whether one of the changes from + 1 to `to` concerns the pipe
abbrev pub concerns_between : Recipe → Pipe → ℕ → ℕ → Bool
concerns_between r pipe from to = list_any (concerns pipe) (slice_range (changes_of r.steps) from to)

-- the histories behind the first n steps
abbrev pub behind : Recipe → ℕ → Histories
behind r n = histories_after (first_histories r.settings r.opening) (take n r.steps)

-- the moment behind the first n steps: how many of them are changes
abbrev pub moment_of : Recipe → ℕ → ℕ
moment_of r n = length (changes_of (take n r.steps))
