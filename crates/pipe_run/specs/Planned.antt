-- The regions of a run.
use Rattle.std.specs.Prelude.{ℕ, List, [], ◌∷◌}
use Rattle.params.specs.declared.settings.Params.{Params}
use Rattle.px.specs.Area.{Area, IsIn}
use Rattle.px.specs.Cut.{Cut}
use Rattle.geometry.specs.Needed.{needed}
use Rattle.geometry.specs.Sides.{sides_after}
use Rattle.modules_raw.specs.Levels.{level_side}
use Rattle.pipe_nodes.specs.declared.active.Active.{Active}
use Rattle.pipe_nodes.specs.declared.show.Window.{Window}
use Rattle.pipe_nodes.specs.Windows.{needed_of}

-- the sides of a level of a source
abbrev pub sides_at : Cut → ℕ → ℕ × ℕ
sides_at source level = (level_side source.w level, level_side source.h level)

-- the region that a module needs of its input, of these sides, for the first of the regions behind it, and those
abbrev pub planned_before : Params → ℕ × ℕ → List Area → List Area
planned_before p sides [] = []
planned_before p sides (r ∷ behind) = needed p sides r ∷ r ∷ behind

-- the regions of a run over a picture of these sides, from that picture's on: the last one is what the window needs of the picture
-- behind all instances, and each other one is what the instance at its place needs for the region behind it
abbrev pub planned : List Active → ℕ × ℕ → Window → List Area
planned [] sides window = needed_of sides.0 sides.1 window ∷ []
planned (a ∷ later) sides window = planned_before a.params sides (planned later (sides_after a.params sides) window)

-- each region lies in the picture at its place
abbrev pub AreInside : List Active → ℕ × ℕ → List Area → Type 0
AreInside actives sides [] = ⊥
AreInside [] sides (r ∷ behind) = IsIn r sides.0 sides.1
AreInside (a ∷ later) sides (r ∷ behind) = IsIn r sides.0 sides.1 × AreInside later (sides_after a.params sides) behind
