-- What contracts see of a run's stages, what its type keeps, and what each event makes of them.
use Rattle.std.specs.Prelude.{◌≡◌, ℕ, ◌+◌, ◌<◌, ◌≤◌, Bool, true, false, List, length, slice_get, Option, Some, None, IfSome, option_and_then}
use Rattle.px.specs.Area.{Area}
use Rattle.px.specs.Cut.{Cut}
use Rattle.pipe_nodes.specs.declared.active.Active.{Active}
use Rattle.pipe_nodes.specs.declared.show.Show.{Show}
use Rattle.pipe_nodes.specs.Staged.{StagedSeen}
use Rattle.pipe_nodes.specs.Windows.{CanShow}
use Rattle.pipe_run.specs.Running.{IsPlan, IsReady, RunsAt}
use Rattle.stage_cache.specs.declared.kept.Kept.{Kept}
use Rattle.stage_cache.specs.Stages.{Stage, keep_answer, stages_after_keep}
use Rattle.stage_cache.specs.StageCache.{StageCacheSeen}
use Rattle.stage_run.specs.declared.reached.At.{At}
use Rattle.stage_run.specs.Asked.{regions_of, stages_asked, stage_behind}

-- the source, what is shown of it, the instances in their order, and how far the run is, once it has a stage
pub record StageRunSeen : Type 0 where
  pub source : Cut
  pub show : Show
  pub actives : List Active
  pub stage : Option At

abbrev pub stage_at : ℕ → Bool → Option At
stage_at done unkept = Some (record { done = done; unkept = unkept })

-- how far a stage is
abbrev pub at_of : Option StagedSeen → Bool → Option At
at_of None unkept = None
at_of (Some s) unkept = stage_at (length s.prefix.actives) unkept

abbrev pub stage_run : Cut → Show → List Active → Option StagedSeen → Bool → StageRunSeen
stage_run source show actives staged unkept = record { source = source; show = show; actives = actives; stage = at_of staged unkept }

-- the stage is one of the run, and covers the region that is planned at its place; where it isn't kept yet, it came from an instance
-- and has just that region
pub record IsStageOf (source : Cut) (show : Show) (actives : List Active) (regions : List Area) (unkept : Bool) (s : StagedSeen) : Type 0 where
  pub within : length s.prefix.actives ≤ length actives
  pub runs : RunsAt source show.level actives regions (length s.prefix.actives) s
  pub some : unkept ≡ true → 0 < length s.prefix.actives
  pub just : unkept ≡ true → slice_get regions (length s.prefix.actives) ≡ Some s.plane.area

-- what the type keeps
pub record Holds (source : Cut) (show : Show) (actives : List Active) (regions : List Area) (staged : Option StagedSeen) (unkept : Bool) : Type 0 where
  pub level : show.level ≤ 8
  pub window : CanShow show.window
  pub few : length actives ≤ 64
  pub plan : IsPlan source show.level actives show.window regions
  pub stage : IfSome staged (IsStageOf source show actives regions unkept)

-- what holds of every run
pub record IsStageRun (r : StageRunSeen) : Type 0 where
  pub level : r.show.level ≤ 8
  pub window : CanShow r.show.window
  pub few : length r.actives ≤ 64
  pub stage : IfSome r.stage (λ a. a.done ≤ length r.actives)

-- the input can be cut out of the plane, which is of the run's level and covers its first region
pub record IsInput (r : StageRunSeen) (p : Cut) : Type 0 where
  pub region : Area
  pub first : slice_get (regions_of r.source r.show r.actives) 0 ≡ Some region
  pub ready : IsReady r.source r.show.level region p

-- ---- finding

-- what it asks of the cache
abbrev pub asked : StageRunSeen → List Stage
asked r = stages_asked r.source r.show r.actives

-- the stage that was found at an index
abbrev pub found_stage : Option ℕ → Option At
found_stage None = None
found_stage (Some i) = stage_at (i + 1) false

-- ---- processing

-- one more instance
abbrev pub on_stage : Option At → Option At
on_stage None = None
on_stage (Some a) = stage_at (a.done + 1) true

-- ---- keeping

-- its stage as an entry of the cache
abbrev pub entry_of : StageRunSeen → Option Stage
entry_of r = option_and_then (λ a. stage_behind r.source r.show r.actives a.done) r.stage

-- the stage once it is kept, or is too large
abbrev pub kept_at : Option At → Option At
kept_at None = None
kept_at (Some a) = stage_at a.done false

-- what the cache answers to the run's entry, and what becomes of it
pub record IsKept (r : StageRunSeen) (old : StageCacheSeen) (kept : Kept) (new : StageCacheSeen) : Type 0 where
  pub entry : Stage
  pub entry_is : entry_of r ≡ Some entry
  pub answer : kept ≡ keep_answer old.budget entry
  pub stages : new ≡ record old { stages = stages_after_keep old.limit old.budget entry old.stages }
