-- what a run that is open goes over
use Rattle.std.proofs.Common.{◌≡◌, ℕ, zero, suc, ◌≤◌, refl, sym, ap, subst, ◌∙◌, arith, Option, Some, None}
use Rattle.std.specs.Prelude.{slice_get, IfSome, OnOk, OnErr, IfOk, Result, Ok, Err}
use Rattle.px.specs.Area.{Area, IsIn}
use Rattle.px.specs.Picture.{Picture}
use Rattle.px.specs.Cut.{Cut, IsCutOf, picture_of}
use Rattle.modules_raw.specs.Levels.{levelled}
use Rattle.pipe_nodes.specs.Whole.{input_of}
use Rattle.pipe_run.specs.Planned.{sides_at}
use Rattle.level_store.specs.Planes.{IsOfLevel}
use Rattle.stage_run.specs.declared.reached.At.{At}
use Rattle.stage_run.specs.Asked.{regions_of}
use Rattle.stage_run.specs.StageRun.{StageRunSeen, IsInput}
use Rattle.dev_core.specs.Subject.{show_of}
use Rattle.dev_core.specs.Jobs.{JobSeen}
use Rattle.stepped.specs.Machine.{course}

-- ---- beginning

level_input : (q : Picture) (level : ℕ) → 1 ≤ level → levelled level q ≡ input_of q level
level_input q zero low = absurd (omega arith)
level_input q (suc l) low = refl

-- a plane of the run's level covers the region with which it begins
of_level : (r : StageRunSeen) (region : Area) (p : Cut) → slice_get (regions_of r.source r.show r.actives) 0 ≡ Some region → IsIn region (sides_at r.source r.show.level).0 (sides_at r.source r.show.level).1
    → IsOfLevel r.source r.show.level p → IsInput r p
of_level r region p first inside of = record {
  region = region;
  first = first;
  ready = record {
    cut = subst (λ q. IsCutOf q p) (level_input (picture_of r.source) r.show.level of.low) of.cut;
    covers = of.covers region inside;
  };
}

pub is_input : (j : JobSeen) (at : Option At) (r : StageRunSeen) (region : Area) (p : Cut) → r ≡ course j at → slice_get (regions_of r.source r.show r.actives) 0 ≡ Some region
    → IsIn region (sides_at r.source r.show.level).0 (sides_at r.source r.show.level).1 → IsOfLevel j.subject.source (show_of j.subject j.name j.moment).level p → IsInput r p
is_input j at r region p is first inside of = of_level r region p first inside (subst (λ (x : StageRunSeen). IsOfLevel x.source x.show.level p) (sym is) of)

-- what follows for the value that there may be
pub for_some : {A : Type 0} → (o : Option A) (P Q : A → Type 0) → ((x : A) → P x → Q x) → IfSome o P → IfSome o Q
for_some None P Q then h = h
for_some (Some x) P Q then h = then x h
