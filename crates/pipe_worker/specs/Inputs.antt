-- The stage with which a run begins where it found none.
use Rattle.std.specs.Prelude.{◌≡◌, ℕ, []}
use Rattle.px.specs.Area.{Area}
use Rattle.px.specs.Cut.{Cut}
use Rattle.pipe_nodes.specs.Prefix.{prefix}
use Rattle.pipe_nodes.specs.Staged.{StagedSeen}

-- a region of a level of the source, behind no instance
pub record IsInputOf (source : Cut) (level : ℕ) (region : Area) (s : StagedSeen) : Type 0 where
  pub prefix_is : s.prefix ≡ prefix level []
  pub source_is : s.source ≡ source
  pub area_is : s.plane.area ≡ region
