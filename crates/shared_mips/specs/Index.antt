-- What a mipmap index is seen as, and what it keeps.
use Rattle.std.specs.Prelude.{◌≡◌, ℕ, ◌+◌, ◌≤◌, List, [], ◌∷◌, length, Option, Result, Ok, Err}
use Rattle.std.specs.declared.alloc.AllocError.{AllocError}
use Rattle.px.specs.Cut.{Cut}
use Rattle.mip_cache.specs.Mipmaps.{Mipmaps}
use Rattle.level_store.specs.declared.hold.ReachAnswer.{ReachAnswer}
use Rattle.shared_mips.specs.declared.event.MipEvent.{MipEvent}
use Rattle.shared_mips.specs.declared.event.MipEvent.TheVariants.{Reach, Evict}
use Rattle.shared_mips.specs.Story.{entries_of, Replays}
use Rattle.shared_mips.specs.Agreed.{holds_of, Agreed, owed}

-- the source whose levels these are, how many slots there are, and what the passes did
pub record Sheet : Type 0 where
  pub source : Cut
  pub slots : ℕ
  pub story : List MipEvent

-- the list is the one that the story leaves, the story replays, and there is room for the elements that end all holds
pub record IsIndex (mips : Mipmaps) (story : List MipEvent) (capacity : ℕ) : Type 0 where
  pub entries : mips.entries ≡ entries_of mips.slots story
  pub replays : Replays mips.slots story
  pub agreed : Agreed mips.entries (holds_of story)
  pub room : length story + owed story ≤ capacity

-- what a reach adds to the story: nothing where memory runs out
abbrev pub reach_adds : ℕ → ℕ → Result ReachAnswer AllocError → List MipEvent
reach_adds worker level (Ok answer) = Reach worker level answer ∷ []
reach_adds worker level (Err e) = []

-- and what an eviction adds
abbrev pub evict_adds : ℕ → Result (Option ℕ) AllocError → List MipEvent
evict_adds worker (Ok answer) = Evict worker answer ∷ []
evict_adds worker (Err e) = []
