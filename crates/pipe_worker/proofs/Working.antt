-- The stages of a job's run.
use Rattle.std.proofs.Common.{◌≡◌, ℕ, zero, suc, ◌+◌, ◌<◌, ◌≤◌, List, [], ◌∷◌, ◌++◌, length, get_or, take, drop, slice_get, Option, Some, IfSome, refl, sym, ap, ◌∙◌, subst, arith, add-one}
use Rattle.std.proofs.lemmas.Option.{slice_get_read}
use Rattle.px.specs.declared.kind.PlaneKind.{PlaneKind}
use Rattle.px.specs.Area.{Area}
use Rattle.px.specs.Cut.{Cut}
use Rattle.pipe_nodes.specs.declared.active.Active.{Active}
use Rattle.pipe_nodes.specs.Applied.{CanApply}
use Rattle.pipe_nodes.specs.Kinds.{IsRun}
use Rattle.pipe_nodes.specs.Prefix.{PrefixSeen, prefix}
use Rattle.pipe_nodes.specs.Staged.{IsRight, StagedSeen}
use Rattle.pipe_run.specs.Planned.{sides_at, planned, AreInside}
use Rattle.pipe_run.specs.Running.{Ends, IsPlan, RunsAt}
use Rattle.pipe_run.proofs.StageLemmas.{begins, can-next, ends, runs-next}
use Rattle.stage_cache.specs.Stages.{Stage, IsRising}
use Rattle.stage_cache.specs.StageCache.{IsFound}
use Rattle.stage_run.specs.Asked.{prefixes}
use Rattle.stage_run.proofs.AskedLemmas.{prefixes-get, prefixes-rising, behind-first}
use Rattle.stage_run.proofs.StageLemmas.{found-stands}
use Rattle.dev_core.specs.Jobs.{JobSeen}
use Rattle.shared_stage.specs.declared.stage_name.StageName.{StageName}
use Rattle.shared_stage.specs.declared.event.StageEvent.{StageEvent}
use Rattle.shared_stage.specs.Story.{IsFoundIn, stages_after}
use Rattle.pipe_worker.specs.Job.{actives_for, count_for, show_for, regions_for, stages_for}
use Rattle.pipe_worker.specs.Runs.{IsPlanned, IsWork, IsAt}

-- the plan of the job's pieces
pub works : (j : JobSeen) (pieces : List Active) (regions : List Area) → pieces ≡ actives_for j → regions ≡ planned pieces (sides_at j.subject.source (show_for j).level) (show_for j).window
    → AreInside pieces (sides_at j.subject.source (show_for j).level) regions → length regions ≡ length pieces + 1 → ((k : PlaneKind) → IsRun k pieces) → IsWork j pieces regions
works j pieces regions pieces_are planned_is inside count run =
    let sides = sides_at j.subject.source (show_for j).level in
    let regions_are : regions ≡ regions_for j = planned_is ∙ ap (λ l. planned l sides (show_for j).window) pieces_are in
    record {
      pieces_are = pieces_are;
      regions_are = regions_are;
      plan = record {
        regions_are = refl;
        count = sym (ap length regions_are) ∙ count ∙ ap (λ l. length l + 1) pieces_are;
        inside = subst (λ l. AreInside (actives_for j) sides l) regions_are (subst (λ l. AreInside l sides regions) pieces_are inside);
        run = λ k. subst (IsRun k) pieces_are (run k);
      };
    }

-- what is asked of the stages
pub asks : (j : JobSeen) (pieces : List Active) (regions : List Area) (list : List Stage) → IsWork j pieces regions → list ≡ prefixes (show_for j).level [] pieces (drop 1 regions) → list ≡ stages_for j
asks j pieces regions list w is =
    is ∙ ap (λ l. prefixes (show_for j).level [] l (drop 1 regions)) w.pieces_are ∙ ap (λ l. prefixes (show_for j).level [] (actives_for j) (drop 1 l)) w.regions_are

pub asks_rising : (j : JobSeen) (list : List Stage) → list ≡ stages_for j → IsRising list
asks_rising j list is = subst IsRising (sym is) (prefixes-rising (show_for j).level [] (actives_for j) (drop 1 (regions_for j)))

-- the stage that was found is one of the run
pub found_at : (j : JobSeen) (pieces : List Active) (regions : List Area) (name : StageName) (seen : List StageEvent) (list : List Stage) (i : ℕ) (s : StagedSeen) → IsWork j pieces regions → j.subject.source ≡ name.source
    → list ≡ stages_for j → IsFoundIn name seen list i s → (i + 1 ≤ count_for j) × IsAt j (i + 1) s
found_at j pieces regions name seen list i s w of list_is f =
    let found : IsFound j.subject.source (stages_after name f.before) list i s = subst (λ c. IsFound c (stages_after name f.before) list i s) (sym of) f.is_found in
    let there = found-stands j.subject.source (show_for j) (actives_for j) (regions_for j) (stages_after name f.before) list i s w.plan.count list_is found in
    (omega (arith, there.is.within, there.count), subst (λ k. IsAt j k s) there.count there.is.runs)

-- the stage that was loaded is one of the run
pub loaded_at : (j : JobSeen) (pieces : List Active) (regions : List Area) (s : StagedSeen) (r : Area) → IsWork j pieces regions → s.prefix ≡ prefix (show_for j).level [] → s.source ≡ j.subject.source → s.plane.area ≡ r
    → r ≡ get_or regions 0 r → IsAt j 0 s
loaded_at j pieces regions s r w prefix_is source_is area r_is =
    begins j.subject.source (show_for j).level (actives_for j) (regions_for j) s r (omega (arith, w.plan.count)) prefix_is source_is area (r_is ∙ ap (λ l. get_or l 0 r) w.regions_are)

-- the next node can be made
pub can_make : (j : JobSeen) (pieces : List Active) (regions : List Area) (k : ℕ) (s : StagedSeen) (a : Active) (r : Area) → IsWork j pieces regions → IsAt j k s → IsRight s → k < count_for j
    → a ≡ get_or pieces k a → r ≡ get_or regions (k + 1) r → CanApply a.params s.plane r
can_make j pieces regions k s a r w at right within a_is r_is =
    can-next j.subject.source (show_for j).level (actives_for j) (show_for j).window (regions_for j) k s a r w.plan at right within (a_is ∙ ap (λ l. get_or l k a) w.pieces_are) (r_is ∙ ap (λ l. get_or l (k + 1) r) w.regions_are)

-- and it is the stage of the next length
pub made_at : (j : JobSeen) (pieces : List Active) (regions : List Area) (k : ℕ) (s t : StagedSeen) (a : Active) (r : Area) → IsWork j pieces regions → IsAt j k s → k < count_for j
    → a ≡ get_or pieces k a → r ≡ get_or regions (k + 1) r → t.prefix ≡ prefix s.prefix.level (s.prefix.actives ++ a ∷ []) → t.source ≡ s.source → t.plane.area ≡ r → IsAt j (k + 1) t
made_at j pieces regions k s t a r w at within a_is r_is prefix_is source_is area =
    runs-next j.subject.source (show_for j).level (actives_for j) (regions_for j) k s t a r at within (omega (arith, w.plan.count, within)) (a_is ∙ ap (λ l. get_or l k a) w.pieces_are) (r_is ∙ ap (λ l. get_or l (k + 1) r) w.regions_are) prefix_is source_is area

-- with its planned region it is what the run asks for at that length
pub made_there : (j : JobSeen) (pieces : List Active) (regions : List Area) (k : ℕ) (t : StagedSeen) (r : Area) → IsWork j pieces regions → IsAt j (k + 1) t → k < count_for j → r ≡ get_or regions (k + 1) r → t.plane.area ≡ r
    → slice_get (stages_for j) k ≡ Some (t.prefix, t.plane.area)
made_there j pieces regions k t r w at within r_is area =
    let level = (show_for j).level in
    let here : r ≡ get_or (regions_for j) (k + 1) r = r_is ∙ ap (λ l. get_or l (k + 1) r) w.regions_are in
    let region : slice_get (drop 1 (regions_for j)) k ≡ Some r = behind-first (regions_for j) k ∙ ap (slice_get (regions_for j)) (sym (add-one k)) ∙ slice_get_read (regions_for j) (length (regions_for j)) (k + 1) r refl (omega (arith, w.plan.count, within)) here in
    prefixes-get level [] (actives_for j) (drop 1 (regions_for j)) k r within region ∙ ap (λ n. Some (prefix level (take n (actives_for j)), r)) (sym (add-one k)) ∙ (λ i. Some (sym at.prefix_is i, sym area i))

-- behind all instances it can be shown
pub can_show : (j : JobSeen) (s : StagedSeen) → IsPlanned j → IsAt j (count_for j) s → IsRight s → Ends j.subject.source (show_for j).level (actives_for j) (show_for j).window s
can_show j s plan at right = ends j.subject.source (show_for j).level (actives_for j) (show_for j).window (regions_for j) (count_for j) s plan at right refl

-- the same of what a find answered
pub found_in : (j : JobSeen) (pieces : List Active) (regions : List Area) (name : StageName) (seen : List StageEvent) (list : List Stage) (o : Option (ℕ × StagedSeen)) (i : ℕ) (s : StagedSeen) → IsWork j pieces regions
    → j.subject.source ≡ name.source → list ≡ stages_for j → IfSome o (λ f. IsFoundIn name seen list f.0 f.1) → o ≡ Some (i, s) → (i + 1 ≤ count_for j) × IsAt j (i + 1) s
found_in j pieces regions name seen list o i s w of list_is told is =
    found_at j pieces regions name seen list i s w of list_is (subst (λ x. IfSome x (λ f. IsFoundIn name seen list f.0 f.1)) is told)
