-- The pipes of a subject, and the changes that concern each.
use Rattle.std.specs.Prelude.{Bool, true, false, is_some}
use Rattle.std.specs.Option.{option_map_or}
use Rattle.outside.specs.declared.job_name.Pipe.{Pipe}
use Rattle.outside.specs.declared.job_name.Pipe.TheVariants as pipes
use Rattle.edit_steps.specs.declared.change.Scope.{Scope}
use Rattle.edit_steps.specs.declared.change.Scope.TheVariants as scopes
use Rattle.edit_steps.specs.declared.settings.Settings.{Settings}
use Rattle.edit_steps.specs.declared.step.Step.{Step}
use Rattle.edit_steps.specs.Changes.{scope_of}

abbrev pub is_view : Scope → Bool
is_view scopes.View = true
is_view _ = false

abbrev pub is_second : Scope → Bool
is_second scopes.Second = true
is_second _ = false

-- whether a subject has the pipe, and which changes it shows besides those of the history
pub record PipeRow : Type 0 where
  pub has : Settings → Bool
  pub shows : Scope → Bool

-- a row for each pipe
abbrev pub pipe_row : Pipe → PipeRow
pipe_row pipes.Full = record { has = λ _. true; shows = is_view }
pipe_row pipes.Preview = record { has = λ _. true; shows = λ _. false }
pipe_row pipes.Second = record { has = λ s. is_some s.second; shows = is_second }

-- the pipes of a subject: full, preview, and second where its settings have a second view
abbrev pub has_pipe : Settings → Pipe → Bool
has_pipe s pipe = (pipe_row pipe).has s

-- whether a change of this scope changes what the pipe shows: one of the history does at every pipe
abbrev pub reaches : Pipe → Scope → Bool
reaches pipe scopes.History = true
reaches pipe scopes.View = (pipe_row pipe).shows scopes.View
reaches pipe scopes.Second = (pipe_row pipe).shows scopes.Second

-- whether the step changes what the pipe shows
abbrev pub concerns : Pipe → Step → Bool
concerns pipe step = option_map_or (reaches pipe) (scope_of step) false
