-- The lists of levels that fit the slots of a cache.
use Rattle.std.specs.Prelude.{◌≤◌, ℕ, List, length}
use Rattle.std.specs.List.{All, filter}
use Rattle.mip_cache.specs.declared.entry.Entry.{Entry}
use Rattle.mip_cache.specs.Mipmaps.{is_of}

abbrev pub IsLevel : ℕ → Type 0
IsLevel level = (1 ≤ level) × (level ≤ 8)

-- at most as many entries as slots, each of a level from 1 to 8, and no level twice
pub record FitSlots (slots : ℕ) (entries : List Entry) : Type 0 where
  pub few : length entries ≤ slots
  pub levels : All (λ e. IsLevel e.level) entries
  pub distinct : (level : ℕ) → length (filter (is_of level) entries) ≤ 1
