-- rows of the table of events, at a machine's state
use Rattle.std.proofs.Common.{◌≡◌, ℕ, List, refl, sym, ap, subst, ◌∙◌, map, Bool, true, false, cond, Option, Some, None}
use Rattle.std.specs.Prelude.{option_map, option_and_then, slice_set}
use Rattle.std.proofs.lemmas.List.{map-set}
use Rattle.std.proofs.Math.ListN.{get_or-map}
use Rattle.stage_cache.specs.StageCache.{StageCacheSeen}
use Rattle.level_store.specs.Levels.{StoreSeen}
use Rattle.dev_core.specs.DeskState.{DeskSeen}
use Rattle.stepped.specs.declared.answer.Answer.{Answer}
use Rattle.stepped.specs.Machine.{OpenSeen, run_seen, core_seen, run_at}
use Rattle.stepped.specs.Step.{Core, Run, Next, given, of_run, run_of, with_run}

-- a run that the machine has is the state's
pub run_of_seen : (desk : DeskSeen) (runs : List (Option OpenSeen)) (cache : StageCacheSeen) (levels : StoreSeen) (w : ℕ) → run_of (core_seen desk runs cache levels) w ≡ option_map run_seen (run_at runs w)
run_of_seen desk runs cache levels w = get_or-map (option_map run_seen) runs w None

-- the row of a worker that has a run
pub row_of : (desk : DeskSeen) (runs : List (Option OpenSeen)) (cache : StageCacheSeen) (levels : StoreSeen) (w : ℕ) (o : OpenSeen) (row : Core → ℕ → Run → Next) → run_at runs w ≡ Some o
    → of_run (core_seen desk runs cache levels) w row ≡ row (core_seen desk runs cache levels) w (run_seen o)
row_of desk runs cache levels w o row is =
    ap (option_and_then (row (core_seen desk runs cache levels) w)) (run_of_seen desk runs cache levels w ∙ ap (option_map run_seen) is)

-- and of one that has none: no such event may happen
pub row_none : (desk : DeskSeen) (runs : List (Option OpenSeen)) (cache : StageCacheSeen) (levels : StoreSeen) (w : ℕ) (row : Core → ℕ → Run → Next) → run_at runs w ≡ None
    → of_run (core_seen desk runs cache levels) w row ≡ None
row_none desk runs cache levels w row is =
    ap (option_and_then (row (core_seen desk runs cache levels) w)) (run_of_seen desk runs cache levels w ∙ ap (option_map run_seen) is)

-- the test of a row passes, or doesn't
pub given_on : (may : Bool) (s : Core) (a : Answer) → may ≡ true → given may s a ≡ Some (s, a)
given_on may s a on = ap (λ b. cond b (Some (s, a)) None) on

pub given_off : (may : Bool) (s : Core) (a : Answer) → may ≡ false → given may s a ≡ None
given_off may s a off = ap (λ b. cond b (Some (s, a)) None) off

-- the state that is seen after one seat was written
pub seen_seat : (desk : DeskSeen) (runs : List (Option OpenSeen)) (cache : StageCacheSeen) (levels : StoreSeen) (w : ℕ) (x : Option OpenSeen)
    → core_seen desk (slice_set runs w x) cache levels ≡ with_run (core_seen desk runs cache levels) w (option_map run_seen x)
seen_seat desk runs cache levels w x =
    ap (λ rs. record { subject = desk.subject; journal = desk.journal; runs = rs; stages = cache.stages; levels = levels.levels }) (map-set (option_map run_seen) runs w x)
