-- What a job's run goes over, and what a look tells of it.
use Rattle.std.specs.Prelude.{◌≡◌, ℕ, ◌≤◌, Bool, true, false, if◌then◌else◌, List, [], length, Option, Some, None}
use Rattle.outside.specs.declared.job_name.JobName.{JobName}
use Rattle.outside.specs.declared.job_name.JobName.TheVariants as job
use Rattle.px.specs.Area.{Area}
use Rattle.edit_steps.specs.Script.{Recipe, history_at, concerns_between}
use Rattle.pipe_nodes.specs.declared.active.Active.{Active}
use Rattle.pipe_nodes.specs.declared.show.Show.{Show}
use Rattle.pipe_nodes.specs.Actives.{actives_of}
use Rattle.stage_cache.specs.Stages.{Stage}
use Rattle.stage_run.specs.Asked.{regions_of, stages_asked}
use Rattle.dev_core.specs.Subject.{SubjectSeen, show_of}
use Rattle.dev_core.specs.Jobs.{JobSeen}
use Rattle.pipe_worker.specs.declared.looks.Looked.{Looked}
use Rattle.pipe_worker.specs.declared.looks.Looked.TheVariants.{Go, Superseded}

abbrev pub is_pipe_job : JobName → Bool
is_pipe_job (job.Pipe p) = true
is_pipe_job (job.Ticket t) = false

-- what is active at a moment of a subject
abbrev pub actives_at : SubjectSeen → ℕ → List Active
actives_at s m = actives_of (history_at s.script m)

-- what is active at the job's moment
abbrev pub actives_for : JobSeen → List Active
actives_for j = actives_at j.subject j.moment

-- how many instances the job's run applies
abbrev pub count_for : JobSeen → ℕ
count_for j = length (actives_for j)

-- what the job shows
abbrev pub show_for : JobSeen → Show
show_for j = show_of j.subject j.name j.moment

-- the planned regions of its run
abbrev pub regions_for : JobSeen → List Area
regions_for j = regions_of j.subject.source (show_for j) (actives_for j)

-- the prefixes of its run of length 1 on, each with its planned region
abbrev pub stages_for : JobSeen → List Stage
stages_for j = stages_asked j.subject.source (show_for j) (actives_for j)

-- ---- looks

-- a change that concerns the job's pipe came after the moment, up to the latest
abbrev pub is_behind : Recipe → JobName → ℕ → ℕ → Bool
is_behind script (job.Pipe p) m latest = concerns_between script p m latest
is_behind script (job.Ticket t) m latest = false

-- what a look tells of a job at a moment
abbrev pub looked_at : Recipe → JobName → ℕ → ℕ → Looked
looked_at script name m latest = if is_behind script name m latest then Superseded latest else Go

-- ---- nodes

-- the actives of nodes whose last moment is this one, where they have one
abbrev pub nodes_at : SubjectSeen → Option ℕ → List Active
nodes_at s None = []
nodes_at s (Some m) = actives_at s m

-- a last moment is at most this
abbrev pub IsUpTo : Option ℕ → ℕ → Type 0
IsUpTo None m = Unit {0}
IsUpTo (Some k) m = k ≤ m
