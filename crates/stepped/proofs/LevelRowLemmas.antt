-- rows that change nothing but the levels
use Rattle.std.proofs.Common.{◌≡◌, ℕ, ◌<◌, ◌≤◌, List, length, refl, sym, ap, ◌∙◌, arith, Bool, true, false, ◌&&◌, Option, Some, None}
use Rattle.std.specs.Prelude.{is_none, is_some, nat_le}
use Rattle.std.proofs.lemmas.Bool.{le-leb}
use Rattle.std.proofs.lemmas.List.{length-set}
use Rattle.stage_cache.specs.StageCache.{StageCacheSeen}
use Rattle.level_store.specs.declared.hold.Hold.{Hold}
use Rattle.level_store.specs.declared.hold.Hold.TheVariants.{Writes, Reads}
use Rattle.level_store.specs.declared.hold.ReachAnswer.{ReachAnswer}
use Rattle.level_store.specs.Levels.{LevelsSeen, StoreSeen, hold_of, reach_got, reached_answer, reach_levels, demoted_by, demote_levels, abandoned_by, abandon_levels, left_by, leave_levels}
use Rattle.stage_run.specs.declared.reached.At.{At}
use Rattle.dev_core.specs.DeskState.{DeskSeen}
use Rattle.dev_core.specs.Subject.{show_of}
use Rattle.stepped.specs.declared.answer.Answer.{Answer}
use Rattle.stepped.specs.Machine.{OpenSeen, run_seen, core_seen, run_at, IsMachine}
use Rattle.stepped.specs.Step.{Core, Run, Next, given, of_run, with_levels, level_of, is_free, reach_answer, row_reach}
use Rattle.stepped.proofs.SeatLemmas.{run_within}
use Rattle.stepped.proofs.RowLemmas.{row_of, given_on, given_off}

-- the store with these levels
abbrev pub with_store : StoreSeen → LevelsSeen → StoreSeen
with_store s l = record s { levels = l }

-- ---- the machine

pub levels_keep : (desk : DeskSeen) (runs : List (Option OpenSeen)) (cache : StageCacheSeen) (levels new : StoreSeen) (l : LevelsSeen) → IsMachine desk runs cache levels → new ≡ with_store levels l
    → length l.holds ≡ length levels.levels.holds → IsMachine desk runs cache new
levels_keep desk runs cache levels new l k is same = record {
  seated = k.seated;
  caches = record {
    source = k.caches.source;
    limit = k.caches.limit;
    budget = k.caches.budget;
    levels_source = ap (λ (x : StoreSeen). x.source) is ∙ k.caches.levels_source;
    holds = ap (λ (x : StoreSeen). length x.levels.holds) is ∙ same ∙ k.caches.holds;
  };
}

pub holds-reach : (w level : ℕ) (v : LevelsSeen) → length (reach_levels w level v).holds ≡ length v.holds
holds-reach w level v = length-set v.holds w _

holds_demoted : (w : ℕ) (v : LevelsSeen) (h : Option Hold) → length (demoted_by w v h).holds ≡ length v.holds
holds_demoted w v None = refl
holds_demoted w v (Some (Writes level)) = length-set v.holds w _
holds_demoted w v (Some (Reads level)) = refl

pub holds-demote : (w : ℕ) (v : LevelsSeen) → length (demote_levels w v).holds ≡ length v.holds
holds-demote w v = holds_demoted w v (hold_of v w)

holds_abandoned : (w : ℕ) (v : LevelsSeen) (h : Option Hold) → length (abandoned_by w v h).holds ≡ length v.holds
holds_abandoned w v None = refl
holds_abandoned w v (Some (Writes level)) = length-set v.holds w _
holds_abandoned w v (Some (Reads level)) = refl

pub holds-abandon : (w : ℕ) (v : LevelsSeen) → length (abandon_levels w v).holds ≡ length v.holds
holds-abandon w v = holds_abandoned w v (hold_of v w)

holds_left : (w : ℕ) (v : LevelsSeen) (h : Option Hold) → length (left_by w v h).holds ≡ length v.holds
holds_left w v None = refl
holds_left w v (Some (Writes level)) = refl
holds_left w v (Some (Reads level)) = length-set v.holds w _

pub holds-leave : (w : ℕ) (v : LevelsSeen) → length (leave_levels w v).holds ≡ length v.holds
holds-leave w v = holds_left w v (hold_of v w)

-- a worker that has a run has a place among the holds
pub hold_within : (desk : DeskSeen) (runs : List (Option OpenSeen)) (cache : StageCacheSeen) (levels : StoreSeen) (w : ℕ) (o : OpenSeen) → IsMachine desk runs cache levels → run_at runs w ≡ Some o
    → w < length levels.levels.holds
hold_within desk runs cache levels w o k is = omega (arith, run_within runs w o is, k.seated.seats, k.caches.holds)

-- the level that its job shows is the one of the table
pub level_is : (desk : DeskSeen) (runs : List (Option OpenSeen)) (cache : StageCacheSeen) (levels : StoreSeen) (w : ℕ) (o : OpenSeen) → IsMachine desk runs cache levels → run_at runs w ≡ Some o
    → (show_of o.job.subject o.job.name o.job.moment).level ≡ level_of desk.subject (run_seen o)
level_is desk runs cache levels w o k is = ap (λ subject. (show_of subject o.job.name o.job.moment).level) (k.seated.jobs w o is).subject_is

-- ---- what is seen

pub levels_seen : (desk : DeskSeen) (runs : List (Option OpenSeen)) (cache : StageCacheSeen) (levels new : StoreSeen) (l : LevelsSeen) → new ≡ with_store levels l
    → core_seen desk runs cache new ≡ with_levels (core_seen desk runs cache levels) l
levels_seen desk runs cache levels new l is = ap (core_seen desk runs cache) is

-- the event happens, or may not
pub row_made : (desk : DeskSeen) (runs : List (Option OpenSeen)) (cache : StageCacheSeen) (levels new : StoreSeen) (w : ℕ) (o : OpenSeen) (row : Core → ℕ → Run → Next) (may : Bool) (l : LevelsSeen) (a : Answer)
    → run_at runs w ≡ Some o → new ≡ with_store levels l
    → row (core_seen desk runs cache levels) w (run_seen o) ≡ given may (with_levels (core_seen desk runs cache levels) l) a → may ≡ true
    → of_run (core_seen desk runs cache levels) w row ≡ Some (core_seen desk runs cache new, a)
row_made desk runs cache levels new w o row may l a at is row_is on =
    row_of desk runs cache levels w o row at ∙ row_is ∙ given_on may (with_levels (core_seen desk runs cache levels) l) a on
    ∙ ap (λ s. Some (s, a)) (sym (levels_seen desk runs cache levels new l is))

pub row_refused : (desk : DeskSeen) (runs : List (Option OpenSeen)) (cache : StageCacheSeen) (levels : StoreSeen) (w : ℕ) (o : OpenSeen) (row : Core → ℕ → Run → Next) (may : Bool) (s : Core) (a : Answer)
    → run_at runs w ≡ Some o → row (core_seen desk runs cache levels) w (run_seen o) ≡ given may s a → may ≡ false
    → of_run (core_seen desk runs cache levels) w row ≡ None
row_refused desk runs cache levels w o row may s a at row_is off = row_of desk runs cache levels w o row at ∙ row_is ∙ given_off may s a off

-- ---- reaching

last_off : (a b : Bool) → (a && (b && false)) ≡ false
last_off true true = refl
last_off true false = refl
last_off false b = refl

all_on : (a b c : Bool) → a ≡ true → b ≡ true → c ≡ true → (a && (b && c)) ≡ true
all_on a b c p q r = ap (λ x. x && (b && c)) p ∙ ap (λ x. x && c) q ∙ r

none_of : {A : Type 0} → (o : Option A) → is_some o ≡ false → is_none o ≡ true
none_of None e = refl
none_of (Some x) e = absurd cc

-- whether a worker may reach for the level
abbrev reach_may : Core → ℕ → Option At → ℕ → Bool
reach_may s w stage level = is_none stage && (is_free s w && nat_le 1 level)

-- and what it gets
abbrev reach_gets : ℕ → LevelsSeen → ℕ → Answer
reach_gets w v level = reach_answer (reached_answer (reach_got w level v))

-- no run reaches for level 0
pub reach_refused : (desk : DeskSeen) (runs : List (Option OpenSeen)) (cache : StageCacheSeen) (levels : StoreSeen) (w : ℕ) (o : OpenSeen) (seen : Core) (level : ℕ) → IsMachine desk runs cache levels
    → core_seen desk runs cache levels ≡ seen → run_at runs w ≡ Some o → level ≡ (show_of o.job.subject o.job.name o.job.moment).level → level ≡ 0 → of_run seen w row_reach ≡ None
reach_refused desk runs cache levels w o seen level k seen_is at shows zero =
    let s = core_seen desk runs cache levels in
    let n = level_of desk.subject (run_seen o) in
    let none : n ≡ 0 = sym (level_is desk runs cache levels w o k at) ∙ sym shows ∙ zero in
    ap (λ x. of_run x w row_reach) (sym seen_is)
    ∙ row_refused desk runs cache levels w o row_reach (reach_may s w o.stage n) (with_levels s (reach_levels w n levels.levels)) (reach_gets w levels.levels n) at refl
    (ap (reach_may s w o.stage) none ∙ last_off (is_none o.stage) (is_free s w))

pub reach_made : (desk : DeskSeen) (runs : List (Option OpenSeen)) (cache : StageCacheSeen) (levels new : StoreSeen) (w : ℕ) (o : OpenSeen) (seen : Core) (level : ℕ) (got : ReachAnswer) (a : Answer)
    → IsMachine desk runs cache levels → core_seen desk runs cache levels ≡ seen → run_at runs w ≡ Some o → level ≡ (show_of o.job.subject o.job.name o.job.moment).level → 1 ≤ level
    → is_some o.stage ≡ false → is_some (hold_of levels.levels w) ≡ false → new ≡ with_store levels (reach_levels w level levels.levels)
    → got ≡ reached_answer (reach_got w level levels.levels) → a ≡ reach_answer got → of_run seen w row_reach ≡ Some (core_seen desk runs cache new, a)
reach_made desk runs cache levels new w o seen level got a k seen_is at shows some bare free is got_is a_is =
    let s = core_seen desk runs cache levels in
    let v = levels.levels in
    let n = level_of desk.subject (run_seen o) in
    let same : n ≡ level = sym (level_is desk runs cache levels w o k at) ∙ sym shows in
    let on : reach_may s w o.stage n ≡ true =
    all_on (is_none o.stage) (is_free s w) (nat_le 1 n) (none_of o.stage bare) (none_of (hold_of v w) free) (ap (nat_le 1) same ∙ le-leb 1 level some) in
    ap (λ x. of_run x w row_reach) (sym seen_is)
    ∙ row_made desk runs cache levels new w o row_reach (reach_may s w o.stage n) (reach_levels w n v) (reach_gets w v n) at (is ∙ ap (λ m. with_store levels (reach_levels w m v)) (sym same)) refl on
    ∙ ap (λ x. Some (core_seen desk runs cache new, x)) (ap (reach_gets w v) same ∙ ap reach_answer (sym got_is) ∙ sym a_is)
