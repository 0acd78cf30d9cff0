-- What happened to a shared stage cache, in order, and which entries that leaves.
use Rattle.std.specs.Prelude.{◌≡◌, ℕ, List, [], ◌∷◌, ◌++◌, Option, Result, Ok, Err}
use Rattle.std.specs.Option.{option_map}
use Rattle.turn_lock.specs.Story.{StartsWith}
use Rattle.pipe_nodes.specs.Staged.{StagedSeen}
use Rattle.stage_cache.specs.declared.kept.Kept.{Kept}
use Rattle.stage_cache.specs.Stages.{Stage, IsRising, found_index, stages_after_find, keep_answer, stages_after_keep}
use Rattle.stage_cache.specs.StageCache.{IsFound}
use Rattle.shared_stage.specs.declared.event.StageEvent.{StageEvent}
use Rattle.shared_stage.specs.declared.event.StageEvent.TheVariants.{Find, Keep}
use Rattle.shared_stage.specs.declared.stage_name.StageName.{StageName}

-- the number of the pass that made the call
abbrev pub worker_of : StageEvent → ℕ
worker_of (Find worker list answer) = worker
worker_of (Keep worker prefix region answer) = worker

module _ (name : StageName) where
  -- the call's condition holds over these entries, and its answer is the one that a cache of one thread gives there
  abbrev pub MayCome : List Stage → StageEvent → Type 0
  MayCome stages (Find worker list answer) = IsRising list × (answer ≡ found_index stages list)
  MayCome stages (Keep worker prefix region answer) = answer ≡ keep_answer name.pixels (prefix, region)

  -- the entries that the call leaves
  abbrev pub stages_next : List Stage → StageEvent → List Stage
  stages_next stages (Find worker list answer) = stages_after_find list stages
  stages_next stages (Keep worker prefix region answer) = stages_after_keep name.entries name.pixels (prefix, region) stages

  abbrev pub stages_from : List Stage → List StageEvent → List Stage
  stages_from stages [] = stages
  stages_from stages (e ∷ es) = stages_from (stages_next stages e) es

  abbrev pub ReplaysFrom : List Stage → List StageEvent → Type 0
  ReplaysFrom stages [] = Unit {0}
  ReplaysFrom stages (e ∷ es) = MayCome stages e × ReplaysFrom (stages_next stages e) es

  -- from a cache without entries on, each call of the story may come where it stands
  abbrev pub Replays : List StageEvent → Type 0
  Replays story = ReplaysFrom [] story

  -- the entries that the story leaves
  abbrev pub stages_after : List StageEvent → List Stage
  stages_after story = stages_from [] story

  -- the stage was found in a story that this one begins with: over the entries which that one leaves
  pub record IsFoundIn (seen : List StageEvent) (list : List Stage) (i : ℕ) (s : StagedSeen) : Type 0 where
    pub before : List StageEvent
    pub stood : StartsWith seen before
    pub is_found : IsFound name.source (stages_after before) list i s

-- what a find adds to the story
abbrev pub find_adds : {E : Type 0} → ℕ → List Stage → Result (Option (ℕ × StagedSeen)) E → List StageEvent
find_adds worker list (Ok r) = Find worker list (option_map (λ f. f.0) r) ∷ []
find_adds worker list (Err e) = []

-- what a keep adds to it
abbrev pub keep_adds : {E : Type 0} → ℕ → StagedSeen → Result Kept E → List StageEvent
keep_adds worker s (Ok kept) = Keep worker s.prefix s.plane.area kept ∷ []
keep_adds worker s (Err e) = []
