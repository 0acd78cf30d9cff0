-- rows that change a worker's run within itself
use Rattle.std.proofs.Common.{◌≡◌, ℕ, ◌<◌, Bor, List, length, refl, sym, ap, subst, ◌∙◌, Bool, true, false, Option, Some, None}
use Rattle.std.proofs.lemmas.Option.{same_Some}
use Rattle.std.proofs.lemmas.Bool.{and_parts, and_left, and_right, not_from_true, ltb-true, eqb-true}
use Rattle.std.specs.Prelude.{slice_set, option_map, ◌+◌, not, ◌&&◌, ◌==◌, nat_lt, is_some, is_none, IsSome, IsSomeAnd, IfSome, Result, Ok, Err}
use Rattle.std.specs.Result.{IsErr}
use Rattle.px.specs.Cut.{Cut}
use Rattle.pipe_nodes.specs.Actives.{actives_of}
use Rattle.level_store.specs.Planes.{IsOfLevel}
use Rattle.edit_steps.specs.Script.{history_at}
use Rattle.stage_run.specs.declared.reached.At.{At}
use Rattle.stage_run.specs.StageRun.{StageRunSeen, IsKept, asked, entry_of, found_stage, kept_at, on_stage, stage_at}
use Rattle.stage_cache.specs.declared.kept.Kept.{Kept}
use Rattle.stage_cache.specs.Stages.{Stage, found_index, stages_after_find, keep_answer, stages_after_keep}
use Rattle.stage_cache.specs.StageCache.{StageCacheSeen}
use Rattle.level_store.specs.declared.hold.Hold.{Hold}
use Rattle.level_store.specs.Levels.{StoreSeen, hold_of, is_writing}
use Rattle.dev_core.specs.DeskState.{DeskSeen}
use Rattle.dev_core.specs.Subject.{SubjectSeen, show_of}
use Rattle.std.specs.declared.alloc.AllocError.{AllocError}
use Rattle.events.specs.declared.event.Event.{Event}
use Rattle.events.specs.declared.event.Event.TheVariants as event
use Rattle.stepped.specs.declared.answer.Answer.{Answer}
use Rattle.stepped.specs.declared.answer.Answer.TheVariants as answer
use Rattle.stepped.specs.Machine.{OpenSeen, Makes, active_count_of, course, run_seen, core_seen, run_at, AreSeated, CachesOf, IsMachine}
use Rattle.stepped.specs.Step.{Core, Run, Next, step, at_stage, count_of, given, of_run, run_over, with_run, with_stage, found_answer, kept_answer, keep_entry, row_find, row_load, row_node, row_keep, row_finish}
use Rattle.stepped.proofs.SeatLemmas.{put_back, put_same, seated_changed}
use Rattle.stepped.proofs.RowLemmas.{row_of, row_none, given_on, given_off, seen_seat}

-- ---- what becomes of the machine

-- the state that is seen where one run was changed, and where the stages that are kept are these
abbrev pub with_stages : Core → ℕ → OpenSeen → List Stage → Core
with_stages s w x stages = record (with_run s w (Some (run_seen x))) { stages = stages }

-- a run was taken out, changed within itself, and put back, and the cache keeps these stages now
pub record IsChanged (desk : DeskSeen) (runs runs2 : List (Option OpenSeen)) (cache cache2 : StageCacheSeen) (levels : StoreSeen) (w : ℕ) (x : OpenSeen) (stages : List Stage) : Type 0 where
  pub keeps : IsMachine desk runs2 cache2 levels
  pub seen : core_seen desk runs2 cache2 levels ≡ with_stages (core_seen desk runs cache levels) w x stages

caches_changed : (subject : SubjectSeen) (cache cache2 : StageCacheSeen) (levels : StoreSeen) (stages : List Stage) → CachesOf subject cache levels → cache2 ≡ record cache { stages = stages } → CachesOf subject cache2 levels
caches_changed subject cache cache2 levels stages k is = record {
  source = ap (λ (c : StageCacheSeen). c.source) is ∙ k.source;
  limit = ap (λ (c : StageCacheSeen). c.limit) is ∙ k.limit;
  budget = ap (λ (c : StageCacheSeen). c.budget) is ∙ k.budget;
  levels_source = k.levels_source;
  holds = k.holds;
}

pub changed : (desk : DeskSeen) (runs runs1 runs2 : List (Option OpenSeen)) (cache cache2 : StageCacheSeen) (levels : StoreSeen) (w : ℕ) (o x : OpenSeen) (stages : List Stage) → IsMachine desk runs cache levels
    → run_at runs w ≡ Some o → runs1 ≡ slice_set runs w None → runs2 ≡ slice_set runs1 w (Some x) → x.job ≡ o.job → cache2 ≡ record cache { stages = stages }
    → IsChanged desk runs runs2 cache cache2 levels w x stages
changed desk runs runs1 runs2 cache cache2 levels w o x stages k is out back same cache_is =
    let put : runs2 ≡ slice_set runs w (Some x) = put_back runs runs1 runs2 w (Some x) out back in
    record {
      keeps = record {
        seated = subst (AreSeated desk) (sym put) (seated_changed desk runs w o x k.seated is same);
        caches = caches_changed desk.subject cache cache2 levels stages k.caches cache_is;
      };
      seen = ap (λ rs. core_seen desk rs cache2 levels) put ∙ ap (λ c. core_seen desk (slice_set runs w (Some x)) c levels) cache_is
          ∙ ap (λ (s : Core). record s { stages = stages }) (seen_seat desk runs cache levels w (Some x));
    }

-- and it was put back as it was
pub record IsSame (desk : DeskSeen) (runs runs2 : List (Option OpenSeen)) (cache cache2 : StageCacheSeen) (levels : StoreSeen) : Type 0 where
  pub keeps : IsMachine desk runs2 cache2 levels
  pub seen : core_seen desk runs2 cache2 levels ≡ core_seen desk runs cache levels

pub unchanged : (desk : DeskSeen) (runs runs1 runs2 : List (Option OpenSeen)) (cache cache2 : StageCacheSeen) (levels : StoreSeen) (w : ℕ) (o x : OpenSeen) → IsMachine desk runs cache levels
    → run_at runs w ≡ Some o → runs1 ≡ slice_set runs w None → runs2 ≡ slice_set runs1 w (Some x) → x ≡ o → cache2 ≡ cache → IsSame desk runs runs2 cache cache2 levels
unchanged desk runs runs1 runs2 cache cache2 levels w o x k is out back same cache_is =
    let put : runs2 ≡ runs = put_same runs runs1 runs2 w o x is out back same in
    record {
      keeps = subst (λ rs. IsMachine desk rs cache2 levels) (sym put) (subst (λ c. IsMachine desk runs c levels) (sym cache_is) k);
      seen = ap (λ rs. core_seen desk rs cache2 levels) put ∙ ap (λ c. core_seen desk runs c levels) cache_is;
    }

-- ---- what the row says

-- the worker has no run: the event may not happen
pub row_bare : (desk : DeskSeen) (runs : List (Option OpenSeen)) (cache : StageCacheSeen) (levels : StoreSeen) (w : ℕ) (row : Core → ℕ → Run → Next) (s : Core) → core_seen desk runs cache levels ≡ s → run_at runs w ≡ None
    → of_run s w row ≡ None
row_bare desk runs cache levels w row s s_is is = ap (λ t. of_run t w row) (sym s_is) ∙ row_none desk runs cache levels w row is

-- its run doesn't pass the row's test
pub row_missed : (desk : DeskSeen) (runs : List (Option OpenSeen)) (cache : StageCacheSeen) (levels : StoreSeen) (w : ℕ) (o : OpenSeen) (row : Core → ℕ → Run → Next) (may : Bool) (next s : Core) (a : Answer)
    → core_seen desk runs cache levels ≡ s → run_at runs w ≡ Some o → row (core_seen desk runs cache levels) w (run_seen o) ≡ given may next a → may ≡ false → of_run s w row ≡ None
row_missed desk runs cache levels w o row may next s a s_is is row_is off =
    ap (λ t. of_run t w row) (sym s_is) ∙ row_of desk runs cache levels w o row is ∙ row_is ∙ given_off may next a off

-- its run passes the test: the state is the row's
pub row_made : (desk : DeskSeen) (runs : List (Option OpenSeen)) (cache : StageCacheSeen) (levels : StoreSeen) (w : ℕ) (o : OpenSeen) (row : Core → ℕ → Run → Next) (may : Bool) (next s new : Core) (a b : Answer)
    → core_seen desk runs cache levels ≡ s → run_at runs w ≡ Some o → row (core_seen desk runs cache levels) w (run_seen o) ≡ given may next a → may ≡ true → new ≡ next → b ≡ a → of_run s w row ≡ Some (new, b)
row_made desk runs cache levels w o row may next s new a b s_is is row_is on new_is b_is =
    ap (λ t. of_run t w row) (sym s_is) ∙ row_of desk runs cache levels w o row is ∙ row_is ∙ given_on may next a on ∙ ap (λ n. Some (n, a)) (sym new_is) ∙ ap (λ i. Some (new, i)) (sym b_is)

-- ---- answers

-- memory ran out, and all is as before
pub makes_err : (s new : Core) (e : Event) (r : Result (Option Answer) AllocError) → IsErr r → new ≡ s → Makes s e new r
makes_err s new e (Ok o) err same = absurd cc
makes_err s new e (Err x) err same = same

-- the run that was looked at is the one that was taken
pub run_same : (runs seen : List (Option OpenSeen)) (w : ℕ) (r o : OpenSeen) → Some r ≡ run_at seen w → seen ≡ runs → run_at runs w ≡ Some o → r ≡ o
run_same runs seen w r o looked is taken = same_Some r o (looked ∙ ap (λ rs. run_at rs w) is ∙ taken)

-- ---- tests

pub none_of : {A : Type 0} → (o : Option A) → is_some o ≡ false → o ≡ None
none_of None h = refl
none_of (Some x) h = absurd cc

-- an instance is left behind the run's stage
less_at : (o : Option At) (n : ℕ) → at_stage o (λ a. nat_lt a.done n) ≡ true → IsSomeAnd o (λ a. a.done < n)
less_at None n h = absurd cc
less_at (Some a) n h = ltb-true a.done n h

pub left_at : (o : Option At) (n : ℕ) (framed : Bool) → (at_stage o (λ a. nat_lt a.done n) && not framed) ≡ true → IsSomeAnd o (λ a. a.done < n)
left_at o n framed h = less_at o n (and_parts (at_stage o (λ a. nat_lt a.done n)) (not framed) h).0

-- none is left
equal_at : (o : Option At) (n : ℕ) → at_stage o (λ a. a.done == n) ≡ true → IsSomeAnd o (λ a. a.done ≡ n)
equal_at None n h = absurd cc
equal_at (Some a) n h = eqb-true a.done n h

pub done_at : (o : Option At) (n : ℕ) (framed : Bool) → (at_stage o (λ a. a.done == n) && not framed) ≡ true → IsSomeAnd o (λ a. a.done ≡ n)
done_at o n framed h = equal_at o n (and_parts (at_stage o (λ a. a.done == n)) (not framed) h).0

-- the stage isn't kept yet
pub unkept_at : (o : Option At) → at_stage o (λ a. a.unkept) ≡ true → IsSomeAnd o (λ a. a.unkept ≡ true)
unkept_at None h = absurd cc
unkept_at (Some a) h = h

-- the desk's subject has as many instances at the run's moment as its job
pub count_same : (desk : DeskSeen) (runs : List (Option OpenSeen)) (w : ℕ) (o : OpenSeen) → AreSeated desk runs → run_at runs w ≡ Some o → active_count_of o.job ≡ count_of desk.subject (run_seen o)
count_same desk runs w o k is = ap (λ (x : SubjectSeen). length (actives_of (history_at x.script o.job.moment))) (k.jobs w o is).subject_is

-- the seat is there, and the cache is of the run's source
pub of_source : (desk : DeskSeen) (runs : List (Option OpenSeen)) (cache : StageCacheSeen) (levels : StoreSeen) (w : ℕ) (o : OpenSeen) → IsMachine desk runs cache levels → run_at runs w ≡ Some o → cache.source ≡ o.job.subject.source
of_source desk runs cache levels w o k is = k.caches.source ∙ sym (ap (λ (x : SubjectSeen). x.source) (k.seated.jobs w o is).subject_is)

-- ---- the five rows

pub load_missed : (desk : DeskSeen) (runs : List (Option OpenSeen)) (cache : StageCacheSeen) (levels : StoreSeen) (w : ℕ) (o : OpenSeen) (s : Core) → core_seen desk runs cache levels ≡ s → run_at runs w ≡ Some o
    → (is_none o.stage && not (is_writing (hold_of levels.levels w))) ≡ false → step s (event.Load w) ≡ None
load_missed desk runs cache levels w o s s_is is off =
    row_missed desk runs cache levels w o row_load (is_none o.stage && not (is_writing (hold_of levels.levels w))) (with_run (core_seen desk runs cache levels) w (Some (with_stage (run_seen o) (stage_at 0 false)))) s answer.Done s_is is refl off

pub load_made : (desk : DeskSeen) (runs runs2 : List (Option OpenSeen)) (cache : StageCacheSeen) (levels : StoreSeen) (w : ℕ) (o x : OpenSeen) (s : Core) → core_seen desk runs cache levels ≡ s → run_at runs w ≡ Some o
    → (is_none o.stage && not (is_writing (hold_of levels.levels w))) ≡ true → x ≡ record o { stage = stage_at 0 false } → IsChanged desk runs runs2 cache cache levels w x cache.stages
    → step s (event.Load w) ≡ Some (core_seen desk runs2 cache levels, answer.Done)
load_made desk runs runs2 cache levels w o x s s_is is on x_is ch =
    row_made desk runs cache levels w o row_load (is_none o.stage && not (is_writing (hold_of levels.levels w))) (with_run (core_seen desk runs cache levels) w (Some (with_stage (run_seen o) (stage_at 0 false)))) s
    (core_seen desk runs2 cache levels) answer.Done answer.Done s_is is refl on (ch.seen ∙ ap (λ y. with_run (core_seen desk runs cache levels) w (Some (run_seen y))) x_is) refl

pub node_missed : (desk : DeskSeen) (runs : List (Option OpenSeen)) (cache : StageCacheSeen) (levels : StoreSeen) (w : ℕ) (o : OpenSeen) (s : Core) → core_seen desk runs cache levels ≡ s → run_at runs w ≡ Some o → AreSeated desk runs
    → (at_stage o.stage (λ a. nat_lt a.done (active_count_of o.job)) && not o.framed) ≡ false → step s (event.Node w) ≡ None
node_missed desk runs cache levels w o s s_is is k off =
    row_missed desk runs cache levels w o row_node (at_stage o.stage (λ a. nat_lt a.done (count_of desk.subject (run_seen o))) && not o.framed) (with_run (core_seen desk runs cache levels) w (Some (with_stage (run_seen o) (on_stage o.stage)))) s
    answer.Done s_is is refl (subst (λ n. (at_stage o.stage (λ a. nat_lt a.done n) && not o.framed) ≡ false) (count_same desk runs w o k is) off)

pub node_made : (desk : DeskSeen) (runs runs2 : List (Option OpenSeen)) (cache : StageCacheSeen) (levels : StoreSeen) (w : ℕ) (o x : OpenSeen) (s : Core) → core_seen desk runs cache levels ≡ s → run_at runs w ≡ Some o → AreSeated desk runs
    → (at_stage o.stage (λ a. nat_lt a.done (active_count_of o.job)) && not o.framed) ≡ true → x ≡ record o { stage = on_stage o.stage } → IsChanged desk runs runs2 cache cache levels w x cache.stages
    → step s (event.Node w) ≡ Some (core_seen desk runs2 cache levels, answer.Done)
node_made desk runs runs2 cache levels w o x s s_is is k on x_is ch =
    row_made desk runs cache levels w o row_node (at_stage o.stage (λ a. nat_lt a.done (count_of desk.subject (run_seen o))) && not o.framed) (with_run (core_seen desk runs cache levels) w (Some (with_stage (run_seen o) (on_stage o.stage)))) s
    (core_seen desk runs2 cache levels) answer.Done answer.Done s_is is refl (subst (λ n. (at_stage o.stage (λ a. nat_lt a.done n) && not o.framed) ≡ true) (count_same desk runs w o k is) on)
    (ch.seen ∙ ap (λ y. with_run (core_seen desk runs cache levels) w (Some (run_seen y))) x_is) refl

pub finish_missed : (desk : DeskSeen) (runs : List (Option OpenSeen)) (cache : StageCacheSeen) (levels : StoreSeen) (w : ℕ) (o : OpenSeen) (s : Core) → core_seen desk runs cache levels ≡ s → run_at runs w ≡ Some o → AreSeated desk runs
    → (at_stage o.stage (λ a. a.done == active_count_of o.job) && not o.framed) ≡ false → step s (event.Finish w) ≡ None
finish_missed desk runs cache levels w o s s_is is k off =
    row_missed desk runs cache levels w o row_finish (at_stage o.stage (λ a. a.done == count_of desk.subject (run_seen o)) && not o.framed) (with_run (core_seen desk runs cache levels) w (Some (record (run_seen o) { framed = true }))) s
    answer.Done s_is is refl (subst (λ n. (at_stage o.stage (λ a. a.done == n) && not o.framed) ≡ false) (count_same desk runs w o k is) off)

pub finish_made : (desk : DeskSeen) (runs runs2 : List (Option OpenSeen)) (cache : StageCacheSeen) (levels : StoreSeen) (w : ℕ) (o x : OpenSeen) (s : Core) → core_seen desk runs cache levels ≡ s → run_at runs w ≡ Some o → AreSeated desk runs
    → (at_stage o.stage (λ a. a.done == active_count_of o.job) && not o.framed) ≡ true → x ≡ record o { framed = true } → IsChanged desk runs runs2 cache cache levels w x cache.stages
    → step s (event.Finish w) ≡ Some (core_seen desk runs2 cache levels, answer.Done)
finish_made desk runs runs2 cache levels w o x s s_is is k on x_is ch =
    row_made desk runs cache levels w o row_finish (at_stage o.stage (λ a. a.done == count_of desk.subject (run_seen o)) && not o.framed) (with_run (core_seen desk runs cache levels) w (Some (record (run_seen o) { framed = true }))) s
    (core_seen desk runs2 cache levels) answer.Done answer.Done s_is is refl (subst (λ n. (at_stage o.stage (λ a. a.done == n) && not o.framed) ≡ true) (count_same desk runs w o k is) on)
    (ch.seen ∙ ap (λ y. with_run (core_seen desk runs cache levels) w (Some (run_seen y))) x_is) refl

-- what the machine asks of the cache is what the row asks
ask_same : (desk : DeskSeen) (runs : List (Option OpenSeen)) (w : ℕ) (o : OpenSeen) → AreSeated desk runs → run_at runs w ≡ Some o → asked (course o.job None) ≡ asked (run_over desk.subject (run_seen o))
ask_same desk runs w o k is =
    ap (λ (x : SubjectSeen). asked (record { source = x.source; show = show_of x o.job.name o.job.moment; actives = actives_of (history_at x.script o.job.moment); stage = None })) (k.jobs w o is).subject_is

pub find_missed : (desk : DeskSeen) (runs : List (Option OpenSeen)) (cache : StageCacheSeen) (levels : StoreSeen) (w : ℕ) (o : OpenSeen) (s : Core) → core_seen desk runs cache levels ≡ s → run_at runs w ≡ Some o
    → (is_none o.stage && is_none (hold_of levels.levels w)) ≡ false → step s (event.Find w) ≡ None
find_missed desk runs cache levels w o s s_is is off =
    let ask = asked (run_over desk.subject (run_seen o)) in
    row_missed desk runs cache levels w o row_find (is_none o.stage && is_none (hold_of levels.levels w))
    (record (with_run (core_seen desk runs cache levels) w (Some (with_stage (run_seen o) (found_stage (found_index cache.stages ask))))) { stages = stages_after_find ask cache.stages }) s
    (found_answer (found_index cache.stages ask)) s_is is refl off

-- how many instances are applied to the stage that was found is what the row answers
found_said : (i n : Option ℕ) (a : Answer) → (n ≡ None → a ≡ answer.NotFound) → ((k : ℕ) → n ≡ Some k → a ≡ answer.Found k) → n ≡ option_map (λ (x : At). x.done) (found_stage i) → a ≡ found_answer i
found_said None n a none some is = none is
found_said (Some i) n a none some is = some (i + 1) is

pub find_made : (desk : DeskSeen) (runs runs2 : List (Option OpenSeen)) (cache cache2 : StageCacheSeen) (levels : StoreSeen) (w : ℕ) (o x : OpenSeen) (s : Core) (n : Option ℕ) (a : Answer) → core_seen desk runs cache levels ≡ s → run_at runs w ≡ Some o → AreSeated desk runs
    → (is_none o.stage && is_none (hold_of levels.levels w)) ≡ true → x ≡ record o { stage = found_stage (found_index cache.stages (asked (course o.job None))) }
    → n ≡ option_map (λ (x : At). x.done) (found_stage (found_index cache.stages (asked (course o.job None)))) → (n ≡ None → a ≡ answer.NotFound) → ((k : ℕ) → n ≡ Some k → a ≡ answer.Found k)
    → IsChanged desk runs runs2 cache cache2 levels w x (stages_after_find (asked (course o.job None)) cache.stages) → step s (event.Find w) ≡ Some (core_seen desk runs2 cache2 levels, a)
find_made desk runs runs2 cache cache2 levels w o x s n a s_is is k on x_is n_is none some ch =
    let ask = asked (run_over desk.subject (run_seen o)) in
    let same = ask_same desk runs w o k is in
    row_made desk runs cache levels w o row_find (is_none o.stage && is_none (hold_of levels.levels w))
    (record (with_run (core_seen desk runs cache levels) w (Some (with_stage (run_seen o) (found_stage (found_index cache.stages ask))))) { stages = stages_after_find ask cache.stages }) s
    (core_seen desk runs2 cache2 levels) (found_answer (found_index cache.stages ask)) a s_is is refl on
    (ch.seen ∙ ap (λ y. with_stages (core_seen desk runs cache levels) w y (stages_after_find (asked (course o.job None)) cache.stages)) x_is
    ∙ ap (λ l. with_stages (core_seen desk runs cache levels) w (record o { stage = found_stage (found_index cache.stages l) }) (stages_after_find l cache.stages)) same)
    (found_said (found_index cache.stages (asked (course o.job None))) n a none some n_is ∙ ap (λ l. found_answer (found_index cache.stages l)) same)

entry_off : (s : Core) (w : ℕ) (r : Run) (e : Option Stage) → at_stage r.stage (λ a. a.unkept) ≡ false → keep_entry s w r e ≡ None
entry_off s w r None off = refl
entry_off s w r (Some e) off =
    given_off (at_stage r.stage (λ a. a.unkept))
    (record (with_run s w (Some (with_stage r (kept_at r.stage)))) { stages = stages_after_keep s.subject.script.settings.stage_entries s.subject.script.settings.stage_pixels e s.stages })
    (kept_answer (keep_answer s.subject.script.settings.stage_pixels e)) off

pub keep_missed : (desk : DeskSeen) (runs : List (Option OpenSeen)) (cache : StageCacheSeen) (levels : StoreSeen) (w : ℕ) (o : OpenSeen) (s : Core) → core_seen desk runs cache levels ≡ s → run_at runs w ≡ Some o
    → at_stage o.stage (λ a. a.unkept) ≡ false → step s (event.Keep w) ≡ None
keep_missed desk runs cache levels w o s s_is is off =
    ap (λ t. of_run t w row_keep) (sym s_is) ∙ row_of desk runs cache levels w o row_keep is
    ∙ entry_off (core_seen desk runs cache levels) w (run_seen o) (entry_of (run_over desk.subject (run_seen o))) off

over_same : (desk : DeskSeen) (runs : List (Option OpenSeen)) (w : ℕ) (o : OpenSeen) → AreSeated desk runs → run_at runs w ≡ Some o → course o.job o.stage ≡ run_over desk.subject (run_seen o)
over_same desk runs w o k is =
    ap (λ (x : SubjectSeen). record { source = x.source; show = show_of x o.job.name o.job.moment; actives = actives_of (history_at x.script o.job.moment); stage = o.stage }) (k.jobs w o is).subject_is

pub keep_made : (desk : DeskSeen) (runs runs2 : List (Option OpenSeen)) (cache cache2 : StageCacheSeen) (levels : StoreSeen) (w : ℕ) (o x : OpenSeen) (s : Core) (e : Stage) (kept : Kept) (a : Answer) → core_seen desk runs cache levels ≡ s → run_at runs w ≡ Some o
    → IsMachine desk runs cache levels → at_stage o.stage (λ a. a.unkept) ≡ true → x ≡ record o { stage = kept_at o.stage } → entry_of (course o.job o.stage) ≡ Some e → kept ≡ keep_answer cache.budget e → a ≡ kept_answer kept
    → IsChanged desk runs runs2 cache cache2 levels w x (stages_after_keep cache.limit cache.budget e cache.stages) → step s (event.Keep w) ≡ Some (core_seen desk runs2 cache2 levels, a)
keep_made desk runs runs2 cache cache2 levels w o x s e kept a s_is is k on x_is entry_is kept_is a_is ch =
    let limit = desk.subject.script.settings.stage_entries in
    let budget = desk.subject.script.settings.stage_pixels in
    row_made desk runs cache levels w o row_keep (at_stage o.stage (λ a. a.unkept))
    (record (with_run (core_seen desk runs cache levels) w (Some (with_stage (run_seen o) (kept_at o.stage)))) { stages = stages_after_keep limit budget e cache.stages }) s
    (core_seen desk runs2 cache2 levels) (kept_answer (keep_answer budget e)) a s_is is
    (ap (keep_entry (core_seen desk runs cache levels) w (run_seen o)) (ap entry_of (sym (over_same desk runs w o k.seated is)) ∙ entry_is)) on
    (ch.seen ∙ ap (λ y. with_stages (core_seen desk runs cache levels) w y (stages_after_keep cache.limit cache.budget e cache.stages)) x_is
    ∙ ap (λ l. with_stages (core_seen desk runs cache levels) w (record o { stage = kept_at o.stage }) (stages_after_keep l cache.budget e cache.stages)) k.caches.limit
    ∙ ap (λ b. with_stages (core_seen desk runs cache levels) w (record o { stage = kept_at o.stage }) (stages_after_keep limit b e cache.stages)) k.caches.budget)
    (a_is ∙ ap kept_answer kept_is ∙ ap (λ b. kept_answer (keep_answer b e)) k.caches.budget)

-- a plane of the machine's level that the run begins with is of the run's
pub ready_of : (desk : DeskSeen) (runs : List (Option OpenSeen)) (cache : StageCacheSeen) (levels : StoreSeen) (w : ℕ) (o : OpenSeen) (level : ℕ) (ready : Option (Bor Cut)) → IsMachine desk runs cache levels → run_at runs w ≡ Some o
    → level ≡ (show_of o.job.subject o.job.name o.job.moment).level → IfSome ready (λ p. IsOfLevel levels.source level p.now)
    → IfSome ready (λ p. IsOfLevel o.job.subject.source (show_of o.job.subject o.job.name o.job.moment).level p.now)
ready_of desk runs cache levels w o level ready k is level_is of =
    let source : levels.source ≡ o.job.subject.source = k.caches.levels_source ∙ sym (ap (λ (x : SubjectSeen). x.source) (k.seated.jobs w o is).subject_is) in
    subst (λ l. IfSome ready (λ p. IsOfLevel o.job.subject.source l p.now)) level_is (subst (λ x. IfSome ready (λ p. IsOfLevel x level p.now)) source of)
