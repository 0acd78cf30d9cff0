-- How far a run has come, and what is left of it.
use Rattle.std.specs.Prelude.{◌≡◌, ℕ, ◌≤◌, ⊤, List, [], ◌∷◌}
use Rattle.params.specs.Ranges.{IsWithin}
use Rattle.px.specs.Area.{Area, Covers, Fits, IsIn}
use Rattle.px.specs.Cut.{Cut, IsCutOf, IsWhole}
use Rattle.px.specs.declared.kind.PlaneKind.{PlaneKind}
use Rattle.px.specs.Kind.{least_side}
use Rattle.px.specs.Picture.{Picture}
use Rattle.geometry.specs.Behind.{GeometrySeen, IsBehind}
use Rattle.geometry.specs.Needed.{needed}
use Rattle.geometry.specs.Sides.{sides_after, sides_behind}
use Rattle.pipe_nodes.specs.declared.active.Active.{Active}
use Rattle.pipe_nodes.specs.Kinds.{AllTake, kind_behind}
use Rattle.pipe_nodes.specs.Whole.{sides_of, settings_of, input_of, run_from}

-- the sides of the source, and what is known of sides and places behind the instances so far
pub record CourseSeen : Type 0 where
  pub w : ℕ
  pub h : ℕ
  pub geometry : GeometrySeen

pub record IsCourse (c : CourseSeen) : Type 0 where
  pub wide : c.w ≤ 16384
  pub high : c.h ≤ 16384
  pub level : c.geometry.trace.level ≤ 8

-- so far a run over that level of the source has come behind these instances
pub record HasCome (source : Picture) (level : ℕ) (before : List Active) (c : CourseSeen) : Type 0 where
  pub wide : c.w ≡ source.w
  pub high : c.h ≡ source.h
  pub behind : IsBehind level (sides_of (input_of source level)) (settings_of before) c.geometry

-- the sides of what instances make of a picture of these sides
abbrev pub sides_made : List Active → ℕ × ℕ → ℕ × ℕ
sides_made actives sides = sides_behind (settings_of actives) sides

-- the region that instances need of their input, of these sides, for a region of what they make: each needs what the next one needs
abbrev pub needed_before : List Active → ℕ × ℕ → Area → Area
needed_before [] sides region = region
needed_before (a ∷ later) sides region = needed a.params sides (needed_before later (sides_after a.params sides) region)

-- the first of the instances takes the plane, and each other one what those before it make; the region lies in what the last one makes, and
-- the plane covers what it needs
pub record CanRun (actives : List Active) (input : Cut) (region : Area) : Type 0 where
  pub takes : AllTake input.kind actives
  pub inside : IsIn region (sides_made actives (input.w, input.h)).0 (sides_made actives (input.w, input.h)).1
  pub covers : Covers input.area (needed_before actives (input.w, input.h) region)

-- wherever the run has come so far, and of whichever picture the input is cut out, the plane is cut out of what the instances make of it
abbrev pub IsMadeBy : List Active → CourseSeen → Cut → Cut → Type 0
IsMadeBy actives c input p = (source i : Picture) (level : ℕ) (before : List Active) → HasCome source level before c → IsCutOf i input → IsCutOf (run_from source level before actives i) p

-- what is left of a run over the plane `input` are the instances `later` over the plane p: whatever they make is what all make
pub record IsLastLeg (actives : List Active) (c : CourseSeen) (input : Cut) (later : List Active) (d : CourseSeen) (p : Cut) : Type 0 where
  pub out : d.geometry.out ≡ (p.w, p.h)
  pub whole_is : IsWhole p
  pub takes : AllTake p.kind later
  pub kind : kind_behind p.kind later ≡ kind_behind input.kind actives
  pub sides : sides_made later (p.w, p.h) ≡ sides_made actives (input.w, input.h)
  pub made : (o : Cut) → IsMadeBy later d p o → IsMadeBy actives c input o

-- along the instances, settings are within their ranges, and pictures have sides
abbrev pub AreSound : List Active → ℕ × ℕ → Type 0
AreSound [] sides = ⊤
AreSound (a ∷ later) sides = IsWithin a.params × Fits 0 0 sides.0 sides.1 × AreSound later (sides_after a.params sides)

-- both sides are as long as a picture of the kind needs
abbrev pub AreEnough : PlaneKind → ℕ × ℕ → Type 0
AreEnough kind sides = (least_side kind ≤ sides.0) × (least_side kind ≤ sides.1)
