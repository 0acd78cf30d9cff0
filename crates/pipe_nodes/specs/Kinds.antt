-- Which kinds of pictures a module takes, and which it makes.
use Rattle.std.specs.Prelude.{◌≡◌, ⊤, List, [], ◌∷◌}
use Rattle.params.specs.declared.settings.Params.{Params}
use Rattle.params.specs.declared.settings.Params.TheVariants as params
use Rattle.px.specs.declared.kind.PlaneKind.{PlaneKind}
use Rattle.px.specs.declared.kind.PlaneKind.TheVariants.{Rgb}
use Rattle.pipe_nodes.specs.declared.active.Active.{Active}

-- raw preparation, temperature and demosaic take every picture, the others RGB ones
abbrev pub Takes : Params → PlaneKind → Type 0
Takes (params.RawPrepare p) k = ⊤
Takes (params.Temperature p) k = ⊤
Takes params.Demosaic k = ⊤
Takes _ k = k ≡ Rgb

-- the kind of what a module makes of a picture of that kind
abbrev pub kind_after : PlaneKind → Params → PlaneKind
kind_after k params.Demosaic = Rgb
kind_after k _ = k

-- the kind of the picture behind the instances
abbrev pub kind_behind : PlaneKind → List Active → PlaneKind
kind_behind k [] = k
kind_behind k (a ∷ later) = kind_behind (kind_after k a.params) later

-- each instance takes what those before it make of a picture of that kind
abbrev pub AllTake : PlaneKind → List Active → Type 0
AllTake k [] = ⊤
AllTake k (a ∷ later) = Takes a.params k × AllTake (kind_after k a.params) later

-- a run from a picture of that kind: each instance takes what those before it make, and the last makes an RGB picture
pub record IsRun (k : PlaneKind) (actives : List Active) : Type 0 where
  pub takes : AllTake k actives
  pub rgb : kind_behind k actives ≡ Rgb
