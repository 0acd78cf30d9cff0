-- What a run goes over.
use Rattle.std.specs.Prelude.{◌≡◌, ℕ, ◌+◌, List, length, take, slice_get, Some}
use Rattle.px.specs.declared.kind.PlaneKind.{PlaneKind}
use Rattle.px.specs.declared.kind.PlaneKind.TheVariants.{Rgb}
use Rattle.px.specs.Area.{Area, Covers}
use Rattle.px.specs.Cut.{Cut, IsCutOf, picture_of}
use Rattle.pipe_nodes.specs.declared.active.Active.{Active}
use Rattle.pipe_nodes.specs.declared.show.Window.{Window}
use Rattle.pipe_nodes.specs.Kinds.{IsRun}
use Rattle.pipe_nodes.specs.Prefix.{prefix}
use Rattle.pipe_nodes.specs.Staged.{StagedSeen}
use Rattle.pipe_nodes.specs.Whole.{input_of}
use Rattle.pipe_nodes.specs.Windows.{needed_of}
use Rattle.pipe_run.specs.Planned.{sides_at, planned, AreInside}

-- the plane is a region of a level of the source that covers the one that is asked for
pub record IsReady (source : Cut) (level : ℕ) (region : Area) (p : Cut) : Type 0 where
  pub cut : IsCutOf (input_of (picture_of source) level) p
  pub covers : Covers p.area region

-- the planned regions of a run, each of them in the picture at its place; and each instance takes what those before it make
pub record IsPlan (source : Cut) (level : ℕ) (actives : List Active) (window : Window) (regions : List Area) : Type 0 where
  pub regions_are : regions ≡ planned actives (sides_at source level) window
  pub count : length regions ≡ length actives + 1
  pub inside : AreInside actives (sides_at source level) regions
  pub run : (k : PlaneKind) → IsRun k actives

-- the stage behind the first i instances, which covers the region that is planned there
pub record RunsAt (source : Cut) (level : ℕ) (actives : List Active) (regions : List Area) (i : ℕ) (s : StagedSeen) : Type 0 where
  pub prefix_is : s.prefix ≡ prefix level (take i actives)
  pub source_is : s.source ≡ source
  pub at : Area
  pub place : slice_get regions i ≡ Some at
  pub covers : Covers s.plane.area at

-- the stage behind all instances, RGB, which covers what the window needs
pub record Ends (source : Cut) (level : ℕ) (actives : List Active) (window : Window) (s : StagedSeen) : Type 0 where
  pub prefix_is : s.prefix ≡ prefix level actives
  pub source_is : s.source ≡ source
  pub rgb : s.plane.kind ≡ Rgb
  pub covers : Covers s.plane.area (needed_of s.plane.w s.plane.h window)
