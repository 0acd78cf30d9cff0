-- What a run adds to the story of the stages.
use Rattle.std.specs.Prelude.{◌≡◌, ℕ, ◌+◌, ◌<◌, ◌≤◌, zero, suc, List, [], ◌∷◌, ◌++◌, Option, Some, None, length, slice_get}
use Rattle.px.specs.Area.{Area}
use Rattle.pipe_nodes.specs.declared.active.Active.{Active}
use Rattle.pipe_nodes.specs.Prefix.{PrefixSeen}
use Rattle.pipe_nodes.specs.Staged.{StagedSeen}
use Rattle.stage_cache.specs.declared.kept.Kept.{Kept}
use Rattle.pipe_run.specs.Running.{IsPlan, RunsAt}
use Rattle.turn_lock.specs.Known.{Known}
use Rattle.dev_core.specs.Jobs.{JobSeen}
use Rattle.shared_stage.specs.declared.event.StageEvent.{StageEvent}
use Rattle.shared_stage.specs.declared.event.StageEvent.TheVariants.{Find, Keep}
use Rattle.shared_stage.specs.declared.stage_name.StageName.{StageName}
use Rattle.pipe_worker.specs.declared.ends.Noded.{Noded}
use Rattle.pipe_worker.specs.declared.ends.Noded.TheVariants as noded
use Rattle.pipe_worker.specs.declared.looks.Looked.TheVariants as looked
use Rattle.pipe_worker.specs.Job.{actives_for, count_for, show_for, regions_for, stages_for}
use Rattle.pipe_worker.specs.Grew.{DeskKnown, Grew, Saw, Shows}

-- what contracts see of a pass of the stages
abbrev pub StageKnown : Type 0
StageKnown = Known StageName StageEvent

-- the length of the prefix that a find answers
abbrev pub found_length : Option ℕ → ℕ
found_length None = 0
found_length (Some i) = i + 1

-- the elements are one Keep for each length from k + 1 to m, in order: of the prefix of that length, over its planned region
abbrev pub AreKeeps : JobSeen → ℕ → ℕ → ℕ → List StageEvent → Type 0
AreKeeps j w k m [] = k ≡ m
AreKeeps j w k m (Keep v p r a ∷ es) = (v ≡ w) × (slice_get (stages_for j) k ≡ Some (p, r)) × AreKeeps j w (k + 1) m es
AreKeeps j w k m (Find v l a ∷ es) = ⊥

-- how many Keeps there are
abbrev pub keeps : List StageEvent → ℕ
keeps [] = 0
keeps (Keep v p r a ∷ es) = 1 + keeps es
keeps (Find v l a ∷ es) = keeps es

-- the job's run is planned
abbrev pub IsPlanned : JobSeen → Type 0
IsPlanned j = IsPlan j.subject.source (show_for j).level (actives_for j) (show_for j).window (regions_for j)

-- the pieces and the regions are those of the job, whose run is planned
pub record IsWork (j : JobSeen) (pieces : List Active) (regions : List Area) : Type 0 where
  pub pieces_are : pieces ≡ actives_for j
  pub regions_are : regions ≡ regions_for j
  pub plan : IsPlanned j

-- the stage behind the first k instances of the job's run, which covers its planned region
abbrev pub IsAt : JobSeen → ℕ → StagedSeen → Type 0
IsAt j k s = RunsAt j.subject.source (show_for j).level (actives_for j) (regions_for j) k s

-- one Keep of the length k + 1
pub record IsKept (j : JobSeen) (k : ℕ) (old new : StageKnown) : Type 0 where
  pub prefix : PrefixSeen
  pub region : Area
  pub answer : Kept
  pub there : slice_get (stages_for j) k ≡ Some (prefix, region)
  pub grew : Grew old new (Keep old.number prefix region answer ∷ [])

-- the nodes from first + 1 to m, with their looks and steps
pub record Went (j : JobSeen) (first m spare before after : ℕ) (desk_old desk_new : DeskKnown) (old new : StageKnown) : Type 0 where
  pub gain : List StageEvent
  pub stage : Grew old new gain
  pub are_keeps : AreKeeps j old.number first m gain
  pub desk : Saw j desk_old desk_new (keeps gain)
  pub least : before + keeps gain ≤ after
  pub most : after ≤ before + keeps gain + spare

abbrev pub spare_of : Noded → ℕ
spare_of (noded.Done s) = 0
spare_of (noded.Superseded k) = 0
spare_of noded.Memory = 1

-- what the nodes give
abbrev pub Ends : JobSeen → ℕ → DeskKnown → Noded → Type 0
Ends j m p (noded.Done s) = (m ≡ count_for j) × IsAt j (count_for j) s
Ends j m p (noded.Superseded k) = Shows j p (looked.Superseded k)
Ends j m p noded.Memory = Unit {0}
