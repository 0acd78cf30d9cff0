-- What contracts see of a stage cache, and what its type keeps.
use Rattle.std.specs.Prelude.{◌≡◌, ℕ, ◌≤◌, List, [], ◌∷◌, map, length, Option, Some, slice_get}
use Rattle.std.specs.List.{IsDistinct}
use Rattle.std.specs.Map.{keys_of, lookup}
use Rattle.std.specs.Option.{option_map_or}
use Rattle.px.specs.Area.{Area, Covers}
use Rattle.px.specs.Cut.{Cut}
use Rattle.pipe_nodes.specs.Prefix.{PrefixSeen}
use Rattle.pipe_nodes.specs.SamePrefix.{same_prefix}
use Rattle.pipe_nodes.specs.Staged.{StagedSeen}
use Rattle.stage_cache.specs.Stages.{Stage, total_pixels, pixels_of}

-- the source, how many entries and how many pixels there may be, and the entries
pub record StageCacheSeen : Type 0 where
  pub source : Cut
  pub limit : ℕ
  pub budget : ℕ
  pub stages : List Stage

abbrev pub stage_cache : Cut → ℕ → ℕ → List Stage → StageCacheSeen
stage_cache source limit budget stages = record { source = source; limit = limit; budget = budget; stages = stages }

-- what holds of every stage cache: a prefix has one entry at most, and both budgets are kept to
pub record IsStageCache (c : StageCacheSeen) : Type 0 where
  pub distinct : IsDistinct same_prefix (keys_of c.stages)
  pub limit : length c.stages ≤ c.limit
  pub budget : total_pixels c.stages ≤ c.budget

-- the prefix and the region of a stage
abbrev pub stage_of_staged : StagedSeen → Stage
stage_of_staged s = (s.prefix, s.plane.area)

-- a stage's entry under a prefix
abbrev pub stage_of : PrefixSeen × StagedSeen → Stage
stage_of e = (e.0, e.1.plane.area)

abbrev pub stages_of : List (PrefixSeen × StagedSeen) → List Stage
stages_of es = map stage_of es

-- each stage stands under its own prefix, and is of the source
abbrev pub AreOf : Cut → List (PrefixSeen × StagedSeen) → Type 0
AreOf source [] = Unit {0}
AreOf source (e ∷ es) = ((e.1.prefix ≡ e.0) × (e.1.source ≡ source)) × AreOf source es

-- how many pixels the entry had that left, if one did
abbrev pub pixels_gone : Option (PrefixSeen × StagedSeen) → ℕ
pixels_gone gone = option_map_or (λ e. pixels_of e.1.plane.area) gone 0

-- the stage is of the source, is the one of its prefix among the entries, has the list's prefix at the index, and covers its region
pub record IsFound (of : Cut) (stages list : List Stage) (i : ℕ) (s : StagedSeen) : Type 0 where
  pub source : s.source ≡ of
  pub entry : lookup (same_prefix s.prefix) stages ≡ Some s.plane.area
  pub asked : (r : Area) × (slice_get list i ≡ Some (s.prefix, r)) × Covers s.plane.area r
