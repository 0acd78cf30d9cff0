-- The list of a stage cache: pairs of prefix and region, the most recently used first; and what finding and keeping make of it.
use Rattle.std.specs.Prelude.{◌≡◌, ℕ, zero, suc, ◌+◌, ◌-◌, ◌*◌, ◌<◌, ◌≤◌, Bool, false, cond, ◌&&◌, nat_le, List, [], ◌∷◌, map, length, take, drop, All, slice_get, Option, Some, None}
use Rattle.std.specs.List.Sorted.{IsStrictlyIncreasing}
use Rattle.std.specs.Option.{option_map_or}
use Rattle.std.specs.Map.{lookup, remove_entry}
use Rattle.lru.specs.LruCache.{promoted}
use Rattle.px.specs.Area.{Area, Covers}
use Rattle.pipe_nodes.specs.Prefix.{PrefixSeen}
use Rattle.pipe_nodes.specs.SamePrefix.{same_prefix}
use Rattle.stage_cache.specs.declared.kept.Kept.{Kept}
use Rattle.stage_cache.specs.declared.kept.Kept.TheVariants.{Stored, TooLarge}

-- a prefix and a region: an entry of the cache, or what is asked of it
abbrev pub Stage : Type 0
Stage = PrefixSeen × Area

-- how many pixels a region has
abbrev pub pixels_of : Area → ℕ
pixels_of a = a.w * a.h

-- how many pixels all regions have together
abbrev pub total_pixels : List Stage → ℕ
total_pixels [] = 0
total_pixels (s ∷ ss) = pixels_of s.1 + total_pixels ss

-- each prefix has more instances than the one before it
abbrev pub IsRising : List Stage → Type 0
IsRising list = IsStrictlyIncreasing (map (λ (s : Stage). length s.0.actives) list)

-- whether the inner rectangle lies in the outer one
abbrev pub does_cover : Area → Area → Bool
does_cover outer inner = nat_le outer.x inner.x && (nat_le (inner.x + inner.w) (outer.x + outer.w) && (nat_le outer.y inner.y && nat_le (inner.y + inner.h) (outer.y + outer.h)))

-- the entry of the asked prefix covers the asked region
abbrev pub IsCovered : List Stage → Stage → Type 0
IsCovered stages asked = (kept : Area) × (lookup (same_prefix asked.0) stages ≡ Some kept) × Covers kept asked.1

-- no prefix of the list has an entry that covers its region
abbrev pub NoneCovered : List Stage → List Stage → Type 0
NoneCovered stages list = All (λ asked. IsCovered stages asked → ⊥) list

-- the prefix at the index has an entry that covers its region, and no later one in the list has
pub record IsLastCovered (stages list : List Stage) (i : ℕ) : Type 0 where
  pub covered : (asked : Stage) × (slice_get list i ≡ Some asked) × IsCovered stages asked
  pub none_later : NoneCovered stages (drop (suc i) list)

-- whether the entry of the asked prefix covers the asked region
abbrev pub has_cover : List Stage → Stage → Bool
has_cover stages asked = option_map_or (λ kept. does_cover kept asked.1) (lookup (same_prefix asked.0) stages) false

-- the place in a list, from the place in its tail or else from whether the head counts
abbrev pub later_or_here : Bool → Option ℕ → Option ℕ
later_or_here here (Some i) = Some (suc i)
later_or_here here None = cond here (Some 0) None

-- the greatest index whose prefix has an entry that covers its region
abbrev pub found_index : List Stage → List Stage → Option ℕ
found_index stages [] = None
found_index stages (asked ∷ list) = later_or_here (has_cover stages asked) (found_index stages list)

-- the entry of the asked prefix goes to the front
abbrev pub stages_after_use : List Stage → Option Stage → List Stage
stages_after_use stages asked = option_map_or (λ (a : Stage). promoted (same_prefix a.0) stages) asked stages

-- finding brings what it finds to the front
abbrev pub stages_after_find : List Stage → List Stage → List Stage
stages_after_find list stages = option_map_or (λ i. stages_after_use stages (slice_get list i)) (found_index stages list) stages

-- a front of the list, of at most so many entries with at most so many pixels; and each longer front has more of either
pub record IsLongestFront (limit budget : ℕ) (list kept : List Stage) : Type 0 where
  pub front : take (length kept) list ≡ kept
  pub few : length kept ≤ limit
  pub small : total_pixels kept ≤ budget
  pub longest : (n : ℕ) → length kept < n → n ≤ length list → n ≤ limit → total_pixels (take n list) ≤ budget → ⊥

-- the longest such front
abbrev pub front_within : ℕ → ℕ → List Stage → List Stage
front_within zero budget list = []
front_within (suc limit) budget [] = []
front_within (suc limit) budget (s ∷ ss) = cond (nat_le (pixels_of s.1) budget) (s ∷ front_within limit (budget - pixels_of s.1) ss) []

-- a stage is too large where it alone has more pixels than the budget
abbrev pub keep_answer : ℕ → Stage → Kept
keep_answer budget s = cond (nat_le (pixels_of s.1) budget) Stored TooLarge

-- a stage that isn't too large goes to the front, and its prefix has no other entry; the longest front within both budgets stays
abbrev pub stages_after_keep : ℕ → ℕ → Stage → List Stage → List Stage
stages_after_keep limit budget s stages = cond (nat_le (pixels_of s.1) budget) (front_within limit budget (s ∷ remove_entry (same_prefix s.0) stages)) stages
