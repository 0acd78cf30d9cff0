-- What a run asks of the stage cache, and which entry its stage becomes.
use Rattle.std.specs.Prelude.{ℕ, zero, suc, List, [], ◌∷◌, ◌++◌, drop, slice_get, Option, None}
use Rattle.px.specs.Area.{Area}
use Rattle.px.specs.Cut.{Cut}
use Rattle.pipe_nodes.specs.declared.active.Active.{Active}
use Rattle.pipe_nodes.specs.declared.show.Show.{Show}
use Rattle.pipe_nodes.specs.Prefix.{prefix}
use Rattle.pipe_run.specs.Planned.{sides_at, planned}
use Rattle.stage_cache.specs.Stages.{Stage}

-- the planned regions of what is shown of these instances, from the input's on
abbrev pub regions_of : Cut → Show → List Active → List Area
regions_of source show actives = planned actives (sides_at source show.level) show.window

-- each prefix of the instances behind the first ones, with the region at its place
abbrev pub prefixes : ℕ → List Active → List Active → List Area → List Stage
prefixes level before [] regions = []
prefixes level before (a ∷ later) [] = []
prefixes level before (a ∷ later) (r ∷ regions) = (prefix level (before ++ a ∷ []), r) ∷ prefixes level (before ++ a ∷ []) later regions

-- what is asked of the stage cache: the prefixes of length 1 on, each with its planned region
abbrev pub stages_asked : Cut → Show → List Active → List Stage
stages_asked source show actives = prefixes show.level [] actives (drop 1 (regions_of source show actives))

-- the stage behind so many instances as an entry of the cache; there is at least one
abbrev pub stage_behind : Cut → Show → List Active → ℕ → Option Stage
stage_behind source show actives zero = None
stage_behind source show actives (suc k) = slice_get (stages_asked source show actives) k
