-- The planes of the levels.
use Rattle.std.specs.Prelude.{◌≡◌, ℕ, ◌≤◌, List, length, slice_index_or, Option, Some, None, is_some}
use Rattle.px.specs.Area.{Area, Covers, IsIn}
use Rattle.px.specs.Cut.{Cut, IsCutOf, IsWhole, picture_of}
use Rattle.modules_raw.specs.Levels.{level_side, levelled}
use Rattle.mip_cache.specs.declared.entry.Entry.{Entry}
use Rattle.mip_cache.specs.Mipmaps.{held_at}
use Rattle.level_store.specs.Agreement.{is_ready}

-- the plane is the whole of a level of the source
pub record IsLevelPlane (source : Cut) (level : ℕ) (p : Cut) : Type 0 where
  pub cut : IsCutOf (levelled level (picture_of source)) p
  pub whole : IsWhole p

-- a place for each level from 0 to 8; the levels that are written have their planes there, and no other has one
pub record PlanesStand (source : Cut) (entries : List Entry) (planes : List (Option Cut)) : Type 0 where
  pub places : length planes ≡ 9
  pub there : (level : ℕ) → is_some (slice_index_or planes level None) ≡ is_ready (held_at level entries)
  pub planes_of : (level : ℕ) (p : Cut) → slice_index_or planes level None ≡ Some p → IsLevelPlane source level p

-- a plane of a level, from 1 to 8, of the source: it covers each region of that level
pub record IsOfLevel (source : Cut) (level : ℕ) (p : Cut) : Type 0 where
  pub low : 1 ≤ level
  pub high : level ≤ 8
  pub cut : IsCutOf (levelled level (picture_of source)) p
  pub covers : (region : Area) → IsIn region (level_side source.w level) (level_side source.h level) → Covers p.area region
