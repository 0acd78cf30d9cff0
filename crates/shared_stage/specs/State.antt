-- What contracts see of a stage cache with its story, and what its type keeps.
use Rattle.std.specs.Prelude.{◌≡◌, List}
use Rattle.stage_cache.specs.StageCache.{StageCacheSeen}
use Rattle.shared_stage.specs.declared.event.StageEvent.{StageEvent}
use Rattle.shared_stage.specs.declared.stage_name.StageName.{StageName}
use Rattle.shared_stage.specs.Story.{Replays, stages_after}

pub record StageStateSeen : Type 0 where
  pub name : StageName
  pub story : List StageEvent

abbrev pub name_of : StageCacheSeen → StageName
name_of c = record { source = c.source; entries = c.limit; pixels = c.budget }

abbrev pub state_of : StageCacheSeen → List StageEvent → StageStateSeen
state_of c story = record { name = name_of c; story = story }

-- the story replays, and leaves the cache's entries
pub record Keeps (c : StageCacheSeen) (story : List StageEvent) : Type 0 where
  pub replays : Replays (name_of c) story
  pub entries : c.stages ≡ stages_after (name_of c) story
