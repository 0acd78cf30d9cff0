-- How what the passes hold agrees with how the levels are held.
use Rattle.std.specs.Prelude.{◌≡◌, ℕ, List, [], ◌∷◌, length, slice_set, sum_by, replicate, Option, Some, None}
use Rattle.mip_cache.specs.declared.entry.Entry.{Entry}
use Rattle.mip_cache.specs.Mipmaps.{held_at}
use Rattle.level_store.specs.declared.hold.Hold.{Hold}
use Rattle.level_store.specs.declared.hold.Hold.TheVariants.{Writes, Reads}
use Rattle.level_store.specs.Levels as held
use Rattle.level_store.specs.Agreement.{AgreesAt}
use Rattle.shared_mips.specs.declared.event.MipEvent.{MipEvent}
use Rattle.shared_mips.specs.Story.{worker_of, hold_after}

-- nothing, for each of the 16 passes that there are at most
unfoldable pub no_holds : List (Option Hold)
no_holds = replicate 16 None

-- what the passes hold after one element
abbrev pub holds_after : List (Option Hold) → MipEvent → List (Option Hold)
holds_after holds e = slice_set holds (worker_of e) (hold_after (held.hold_in holds (worker_of e)) e)

abbrev pub holds_from : List (Option Hold) → List MipEvent → List (Option Hold)
holds_from holds [] = holds
holds_from holds (e ∷ es) = holds_from (holds_after holds e) es

-- what each pass holds after a story
abbrev pub holds_of : List MipEvent → List (Option Hold)
holds_of story = holds_from no_holds story

-- each level is held as the passes hold it
pub record Agreed (entries : List Entry) (holds : List (Option Hold)) : Type 0 where
  pub count : length holds ≡ 16
  pub each : (level : ℕ) → AgreesAt holds level (held_at level entries)

-- how many elements may still be needed to end the hold
abbrev pub needs : Option Hold → ℕ
needs None = 0
needs (Some (Writes level)) = 2
needs (Some (Reads level)) = 1

-- how many elements may still be needed to end all holds
abbrev pub owed : List MipEvent → ℕ
owed story = sum_by needs (holds_of story)
