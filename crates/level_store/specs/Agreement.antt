-- How what the workers hold agrees with how the levels are held.
use Rattle.std.specs.Prelude.{◌≡◌, ℕ, ◌≤◌, ◌==◌, Bool, true, false, List, length, count_by, Option, Some, None}
use Rattle.mip_cache.specs.declared.entry.Held.{Held}
use Rattle.mip_cache.specs.declared.entry.Held.TheVariants.{Writing, Ready}
use Rattle.mip_cache.specs.declared.entry.Entry.{Entry}
use Rattle.mip_cache.specs.Mipmaps.{held_at, readers_of}
use Rattle.mip_cache.specs.Slots.{IsLevel}
use Rattle.level_store.specs.declared.hold.Hold.{Hold}
use Rattle.level_store.specs.declared.hold.Hold.TheVariants.{Writes, Reads}
use Rattle.level_store.specs.Levels.{hold_in}

-- whether a worker that holds this reads the level
abbrev pub is_reader_of : ℕ → Option Hold → Bool
is_reader_of level None = false
is_reader_of level (Some (Writes l)) = false
is_reader_of level (Some (Reads l)) = l == level

-- the level has as many readers as workers hold it to read; its writer is the worker that holds it to write
pub record AgreesAt (holds : List (Option Hold)) (level : ℕ) (held : Option Held) : Type 0 where
  pub readers : readers_of held ≡ count_by (is_reader_of level) holds
  pub writes : (w : ℕ) → hold_in holds w ≡ Some (Writes level) → held ≡ Some (Writing w)
  pub written : (w : ℕ) → held ≡ Some (Writing w) → hold_in holds w ≡ Some (Writes level)
  pub range : (h : Held) → held ≡ Some h → IsLevel level

-- for each level, and the workers are few
pub record Agree (entries : List Entry) (holds : List (Option Hold)) : Type 0 where
  pub few : length holds ≤ 5
  pub each : (level : ℕ) → AgreesAt holds level (held_at level entries)

-- whether the level is written
abbrev pub is_ready : Option Held → Bool
is_ready None = false
is_ready (Some (Writing worker)) = false
is_ready (Some (Ready readers)) = true

-- the same levels are written
abbrev pub SameReady : List Entry → List Entry → Type 0
SameReady old new = (level : ℕ) → is_ready (held_at level new) ≡ is_ready (held_at level old)
