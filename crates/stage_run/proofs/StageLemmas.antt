-- Lemmas on the stage of a run.
use Rattle.std.proofs.Common.{◌≡◌, ℕ, zero, suc, ◌+◌, ◌<◌, ◌≤◌, Bool, true, false, List, [], ◌∷◌, ◌++◌, length, take, drop, slice_get, get_or, Option, Some, None, refl, sym, ap, ◌∙◌, subst, arith, add-one}
use Rattle.std.proofs.lemmas.List.{length-take}
use Rattle.std.proofs.lemmas.Option.{slice_get-get_or, slice_get_read, slice_get_within}
use Rattle.px.specs.Area.{Area, IsIn}
use Rattle.px.specs.Cut.{Cut}
use Rattle.pipe_nodes.specs.declared.active.Active.{Active}
use Rattle.pipe_nodes.specs.declared.show.Show.{Show}
use Rattle.pipe_nodes.specs.Applied.{CanApply}
use Rattle.pipe_nodes.specs.Prefix.{PrefixSeen, prefix}
use Rattle.pipe_nodes.specs.Staged.{IsRight, StagedSeen}
use Rattle.std.specs.Prelude.{is_some, IfSome, IsSome, IsSomeAnd}
use Rattle.pipe_run.specs.Planned.{sides_at, AreInside}
use Rattle.pipe_run.specs.Running.{Ends, IsPlan, RunsAt}
use Rattle.pipe_run.proofs.StageLemmas.{begins, can-next, ends, runs-next}
use Rattle.stage_cache.specs.Stages.{Stage}
use Rattle.stage_cache.specs.StageCache.{StageCacheSeen, IsFound, stage_of_staged}
use Rattle.stage_run.specs.declared.reached.At.{At}
use Rattle.stage_run.specs.Asked.{prefixes, stage_behind}
use Rattle.stage_run.specs.StageRun.{StageRunSeen, Holds, IsStageOf, entry_of, at_of, stage_run}
use Rattle.stage_run.proofs.AskedLemmas.{prefixes-get, length-prefixes, behind-first, length-behind}

-- a run's stage, and how many instances it stands behind
pub record Stands (source : Cut) (show : Show) (actives : List Active) (regions : List Area) (unkept : Bool) (n : ℕ) (s : StagedSeen) : Type 0 where
  pub is : IsStageOf source show actives regions unkept s
  pub count : length s.prefix.actives ≡ n

pub stands : (source : Cut) (show : Show) (actives : List Active) (regions : List Area) (unkept : Bool) (n : ℕ) (s : StagedSeen) → n ≤ length actives → RunsAt source show.level actives regions n s
    → (unkept ≡ true → 0 < n) → (unkept ≡ true → slice_get regions n ≡ Some s.plane.area) → Stands source show actives regions unkept n s
stands source show actives regions unkept n s within runs some just =
    let count : length s.prefix.actives ≡ n = ap (λ (p : PrefixSeen). length p.actives) runs.prefix_is ∙ omega (arith, length-take n actives) in
    record {
      is = record {
        within = omega arith;
        runs = subst (λ k. RunsAt source show.level actives regions k s) (sym count) runs;
        some = λ h. subst (λ k. 0 < k) (sym count) (some h);
        just = λ h. subst (λ k. slice_get regions k ≡ Some s.plane.area) (sym count) (just h);
      };
      count = count;
    }

-- the stage that was found at an index
pub found-stands : (source : Cut) (show : Show) (actives : List Active) (regions : List Area) (stages list : List Stage) (i : ℕ) (s : StagedSeen) → length regions ≡ length actives + 1
    → list ≡ prefixes show.level [] actives (drop 1 regions) → IsFound source stages list i s → Stands source show actives regions false (i + 1) s
found-stands source show actives regions stages list i s count list_is found =
    let r : Area = found.asked.0 in
    let get : slice_get (prefixes show.level [] actives (drop 1 regions)) i ≡ Some (s.prefix, r) = ap (λ l. slice_get l i) (sym list_is) ∙ found.asked.1 in
    let long : length (prefixes show.level [] actives (drop 1 regions)) ≡ length actives = length-prefixes show.level [] actives (drop 1 regions) (length-behind regions (length actives) count) in
    let inner : i < length (prefixes show.level [] actives (drop 1 regions)) = slice_get_within (prefixes show.level [] actives (drop 1 regions)) i (s.prefix, r) get in
    let within : i < length actives = omega (arith, long, inner) in
    let x : Area = get_or (drop 1 regions) i r in
    let region : slice_get (drop 1 regions) i ≡ Some x = slice_get-get_or (drop 1 regions) i r (omega (arith, length-behind regions (length actives) count)) in
    let there : slice_get (prefixes show.level [] actives (drop 1 regions)) i ≡ Some (prefix show.level (take (suc i) actives), x) = prefixes-get show.level [] actives (drop 1 regions) i x within region in
    let both : ◌≡◌ {A = Option Stage} (Some (s.prefix, r)) (Some (prefix show.level (take (suc i) actives), x)) = sym get ∙ there in
    let pair : ◌≡◌ {A = Stage} (s.prefix, r) (prefix show.level (take (suc i) actives), x) = cc in
    let prefix_is : s.prefix ≡ prefix show.level (take (suc i) actives) = ap (λ (e : Stage). e.0) pair in
    let same : x ≡ r = sym (ap (λ (e : Stage). e.1) pair) in
    stands source show actives regions false (i + 1) s (omega arith)
    (record {
      prefix_is = prefix_is ∙ ap (λ n. prefix show.level (take n actives)) (sym (add-one i));
      source_is = found.source;
      at = r;
      place = ap (slice_get regions) (add-one i) ∙ sym (behind-first regions i) ∙ region ∙ ap Some same;
      covers = found.asked.2;
    }) (λ h. cc) (λ h. cc)

-- a stage that isn't kept yet is an entry of the run
entry-at : (source : Cut) (show : Show) (actives : List Active) (regions : List Area) (s : StagedSeen) (n : ℕ) → IsPlan source show.level actives show.window regions → 0 < n → n ≤ length actives
    → s.prefix ≡ prefix show.level (take n actives) → slice_get regions n ≡ Some s.plane.area → stage_behind source show actives n ≡ Some (stage_of_staged s)
entry-at source show actives regions s zero plan some within prefix_is area = absurd (omega arith)
entry-at source show actives regions s (suc k) plan some within prefix_is area =
    ap (λ list. slice_get (prefixes show.level [] actives (drop 1 list)) k) (sym plan.regions_are)
    ∙ prefixes-get show.level [] actives (drop 1 regions) k s.plane.area (omega arith) (behind-first regions k ∙ area)
    ∙ ap (λ p. Some (p, s.plane.area)) (sym prefix_is)

pub entry-is : (source : Cut) (show : Show) (actives : List Active) (regions : List Area) (s : StagedSeen) → IsPlan source show.level actives show.window regions → IsStageOf source show actives regions true s
    → stage_behind source show actives (length s.prefix.actives) ≡ Some (stage_of_staged s)
entry-is source show actives regions s plan is =
    entry-at source show actives regions s (length s.prefix.actives) plan (is.some refl) is.within is.runs.prefix_is (is.just refl)

-- runs that differ in their stage
pub same-run : (source : Cut) (show : Show) (actives : List Active) (staged : Option StagedSeen) (unkept : Bool) (old : StageRunSeen) (was : Option StagedSeen) (kept : Bool) (at : Option At) → stage_run source show actives was kept ≡ old
    → at_of staged unkept ≡ at → stage_run source show actives staged unkept ≡ record old { stage = at }
same-run source show actives staged unkept old was kept at old_is at_is =
    ap (λ o. record { source = source; show = show; actives = actives; stage = o }) at_is ∙ ap (λ (r : StageRunSeen). record r { stage = at }) old_is

-- ---- what the type keeps

-- with another stage
pub with-stage : (source : Cut) (show : Show) (actives : List Active) (regions : List Area) (staged : Option StagedSeen) (was unkept : Bool) (s : StagedSeen) → Holds source show actives regions staged was
    → IsStageOf source show actives regions unkept s → Holds source show actives regions (Some s) unkept
with-stage source show actives regions staged was unkept s h is = record { level = h.level; window = h.window; few = h.few; plan = h.plan; stage = is }

-- the stage that there is
pub stage-is : (source : Cut) (show : Show) (actives : List Active) (regions : List Area) (staged : Option StagedSeen) (unkept : Bool) (s : StagedSeen) → Holds source show actives regions staged unkept → staged ≡ Some s
    → IsStageOf source show actives regions unkept s
stage-is source show actives regions staged unkept s h is = subst (λ o. IfSome o (IsStageOf source show actives regions unkept)) is h.stage

-- what is asked of a run's stage
pub stage-has : (P : At → ℕ → Type 0) (source : Cut) (show : Show) (actives : List Active) (staged : Option StagedSeen) (unkept : Bool) (old : StageRunSeen) (s : StagedSeen) → stage_run source show actives staged unkept ≡ old → staged ≡ Some s
    → IsSomeAnd old.stage (λ a. P a (length old.actives)) → P (record { done = length s.prefix.actives; unkept = unkept }) (length actives)
stage-has P source show actives staged unkept old s old_is is has =
    let inner : IsSomeAnd (at_of staged unkept) (λ a. P a (length actives)) = subst (λ (r : StageRunSeen). IsSomeAnd r.stage (λ a. P a (length r.actives))) (sym old_is) has in
    subst (λ o. IsSomeAnd (at_of o unkept) (λ a. P a (length actives))) is inner

-- the next instance can be applied
pub can-process : (source : Cut) (show : Show) (actives : List Active) (regions : List Area) (unkept : Bool) (s : StagedSeen) (n : ℕ) (a : Active) (r : Area) → IsPlan source show.level actives show.window regions
    → IsStageOf source show actives regions unkept s → IsRight s → n ≡ length s.prefix.actives → n < length actives → a ≡ get_or actives n a → r ≡ get_or regions (n + 1) r → CanApply a.params s.plane r
can-process source show actives regions unkept s n a r plan is right n_is within a_is r_is =
    can-next source show.level actives show.window regions n s a r plan (subst (λ k. RunsAt source show.level actives regions k s) (sym n_is) is.runs) right within a_is r_is

-- the stage behind it is one of the run
pub processed : (source : Cut) (show : Show) (actives : List Active) (regions : List Area) (unkept : Bool) (s t : StagedSeen) (n : ℕ) (a : Active) (r : Area) → IsPlan source show.level actives show.window regions
    → IsStageOf source show actives regions unkept s → n ≡ length s.prefix.actives → n < length actives → a ≡ get_or actives n a → r ≡ get_or regions (n + 1) r
    → t.prefix ≡ prefix s.prefix.level (s.prefix.actives ++ a ∷ []) → t.source ≡ s.source → t.plane.area ≡ r → Stands source show actives regions true (n + 1) t
processed source show actives regions unkept s t n a r plan is n_is within a_is r_is prefix_is source_is area =
    let room : n + 1 < length regions = omega (arith, plan.count) in
    stands source show actives regions true (n + 1) t (omega arith)
    (runs-next source show.level actives regions n s t a r (subst (λ k. RunsAt source show.level actives regions k s) (sym n_is) is.runs) within room a_is r_is prefix_is source_is area)
    (λ h. omega arith) (λ h. slice_get_read regions (length regions) (n + 1) t.plane.area refl room (subst (λ x. x ≡ get_or regions (n + 1) x) (sym area) r_is))

-- the stage that was loaded is one of the run
pub loaded : (source : Cut) (show : Show) (actives : List Active) (regions : List Area) (s : StagedSeen) (r : Area) → IsPlan source show.level actives show.window regions → s.prefix ≡ prefix show.level [] → s.source ≡ source → s.plane.area ≡ r
    → r ≡ get_or regions 0 r → Stands source show actives regions false 0 s
loaded source show actives regions s r plan prefix_is source_is area r_is =
    stands source show actives regions false 0 s (omega arith) (begins source show.level actives regions s r (omega (arith, plan.count)) prefix_is source_is area r_is) (λ h. cc) (λ h. cc)

-- behind all instances it can be shown
pub can-finish : (source : Cut) (show : Show) (actives : List Active) (regions : List Area) (staged : Option StagedSeen) (unkept : Bool) (old : StageRunSeen) (s : StagedSeen) → stage_run source show actives staged unkept ≡ old → staged ≡ Some s
    → Holds source show actives regions staged unkept → IsRight s → IsSomeAnd old.stage (λ a. a.done ≡ length old.actives) → Ends source show.level actives show.window s
can-finish source show actives regions staged unkept old s old_is is h right done =
    let all = stage-has (λ a n. a.done ≡ n) source show actives staged unkept old s old_is is done in
    ends source show.level actives show.window regions (length s.prefix.actives) s h.plan (stage-is source show actives regions staged unkept s h is).runs right all

-- what a cache of the run's source found is the run's
pub found-in : (source : Cut) (show : Show) (actives : List Active) (regions : List Area) (staged : Option StagedSeen) (unkept : Bool) (old : StageRunSeen) (cache : StageCacheSeen) (list : List Stage) (r : Option (ℕ × StagedSeen)) (i : ℕ) (s : StagedSeen)
    → stage_run source show actives staged unkept ≡ old → Holds source show actives regions staged unkept → cache.source ≡ old.source → list ≡ prefixes show.level [] actives (drop 1 regions)
    → IfSome r (λ f. IsFound cache.source cache.stages list f.0 f.1) → r ≡ Some (i, s) → Stands source show actives regions false (i + 1) s
found-in source show actives regions staged unkept old cache list r i s old_is h of list_is told is =
    let of_run : cache.source ≡ source = of ∙ sym (ap (λ (o : StageRunSeen). o.source) old_is) in
    let found : IsFound cache.source cache.stages list i s = subst (λ o. IfSome o (λ f. IsFound cache.source cache.stages list f.0 f.1)) is told in
    found-stands source show actives regions cache.stages list i s h.plan.count list_is (subst (λ o. IsFound o cache.stages list i s) of_run found)

-- ---- keeping

-- the entry that the run's stage becomes
pub kept-entry : (source : Cut) (show : Show) (actives : List Active) (regions : List Area) (staged : Option StagedSeen) (unkept : Bool) (old : StageRunSeen) (s : StagedSeen) → stage_run source show actives staged unkept ≡ old → staged ≡ Some s
    → Holds source show actives regions staged unkept → IsSomeAnd old.stage (λ a. a.unkept ≡ true) → entry_of old ≡ Some (stage_of_staged s)
kept-entry source show actives regions staged unkept old s old_is is h has =
    let yes : unkept ≡ true = stage-has (λ a n. a.unkept ≡ true) source show actives staged unkept old s old_is is has in
    let stage : IsStageOf source show actives regions true s = subst (λ u. IsStageOf source show actives regions u s) yes (stage-is source show actives regions staged unkept s h is) in
    ap entry_of (sym old_is) ∙ ap (λ o. entry_of (stage_run source show actives o unkept)) is ∙ entry-is source show actives regions s h.plan stage

-- a stage that isn't kept yet has an entry
pub unkept-entry : (source : Cut) (show : Show) (actives : List Active) (regions : List Area) (staged : Option StagedSeen) (unkept : Bool) → Holds source show actives regions staged unkept
    → IfSome (at_of staged unkept) (λ a. a.unkept ≡ true → IsSome (entry_of (stage_run source show actives staged unkept)))
unkept-entry source show actives regions None unkept h = tt
unkept-entry source show actives regions (Some s) unkept h = λ yes.
    let stage : IsStageOf source show actives regions true s = subst (λ u. IsStageOf source show actives regions u s) yes h.stage in
    ap is_some (entry-is source show actives regions s h.plan stage)

-- ---- beginning

-- the first region lies in the level's picture
first-of : (actives : List Active) (sides : ℕ × ℕ) (regions : List Area) (r : Area) → AreInside actives sides regions → r ≡ get_or regions 0 r → IsIn r sides.0 sides.1
first-of actives sides [] r inside r_is = absurd inside
first-of [] sides (a ∷ behind) r inside r_is = subst (λ x. IsIn x sides.0 sides.1) (sym r_is) inside
first-of (m ∷ later) sides (a ∷ behind) r inside r_is = subst (λ x. IsIn x sides.0 sides.1) (sym r_is) inside.0

pub first-inside : (source : Cut) (show : Show) (actives : List Active) (regions : List Area) (staged : Option StagedSeen) (unkept : Bool) (old : StageRunSeen) (r : Area) → stage_run source show actives staged unkept ≡ old
    → Holds source show actives regions staged unkept → r ≡ get_or regions 0 r → IsIn r (sides_at old.source old.show.level).0 (sides_at old.source old.show.level).1
first-inside source show actives regions staged unkept old r old_is h r_is =
    subst (λ (x : StageRunSeen). IsIn r (sides_at x.source x.show.level).0 (sides_at x.source x.show.level).1) old_is (first-of actives (sides_at source show.level) regions r h.plan.inside r_is)
