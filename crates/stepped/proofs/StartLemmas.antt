-- the machine before the first event, and its end
use Rattle.std.proofs.Common.{◌≡◌, ℕ, zero, suc, ◌+◌, ◌<◌, List, [], ◌∷◌, ◌++◌, length, map, replicate, refl, sym, ap, subst, ◌∙◌, arith, true, false, eqb, Option, Some, None, ⊎_elim}
use Rattle.std.specs.Prelude.{option_map, ◌==◌}
use Rattle.std.proofs.lemmas.Bool.Decides.{eqb_tells}
use Rattle.std.proofs.lemmas.List.{length-append, length-replicate, get_or_append_left, get_or_push}
use Rattle.outside.specs.declared.job_name.JobName.{JobName}
use Rattle.outside.specs.declared.job_name.JobName.TheVariants as job
use Rattle.px.specs.Cut.{Cut}
use Rattle.edit_steps.specs.declared.settings.Settings.{Settings}
use Rattle.journal.specs.Desk.{May}
use Rattle.journal.specs.Own.{worker_of, Says}
use Rattle.stage_cache.specs.StageCache.{StageCacheSeen, stage_cache}
use Rattle.level_store.specs.Levels.{StoreSeen, start_levels}
use Rattle.dev_core.specs.DeskState.{DeskSeen, now, with_entry}
use Rattle.dev_core.specs.Jobs.{JobSeen, back_entry}
use Rattle.dev_core.specs.Subject.{SubjectSeen}
use Rattle.stepped.specs.Machine.{OpenSeen, run_seen, core_seen, run_at, line_at, AreHeld, AreSeated, IsMachine}
use Rattle.stepped.specs.Step.{Run, core_of, last_worker}
use Rattle.stepped.proofs.SeatLemmas.{run_within, holds_run, may_back, says_entered, slots_entered, cond_off, seated_start}

-- ---- before the first event

-- the parts that a machine begins with
pub record Starts (subject : SubjectSeen) (desk : DeskSeen) (runs : List (Option OpenSeen)) (cache : StageCacheSeen) (levels : StoreSeen) : Type 0 where
  pub desk_is : desk ≡ record { subject = subject; journal = [] }
  pub runs_are : runs ≡ replicate (last_worker subject + 1) None
  pub cache_is : cache ≡ stage_cache subject.source subject.script.settings.stage_entries subject.script.settings.stage_pixels []
  pub levels_are : levels ≡ record { source = subject.source; levels = start_levels subject.script.settings.mip_slots (last_worker subject) }

abbrev store_of : Cut → Settings → StoreSeen
store_of source x = record { source = source; levels = start_levels x.mip_slots x.workers }

pub starts_of : (subject : SubjectSeen) (desk : DeskSeen) (runs : List (Option OpenSeen)) (cache : StageCacheSeen) (levels : StoreSeen) (s : Settings) (one two : Cut) (pixels : ℕ)
    → s ≡ subject.script.settings → one ≡ subject.source → two ≡ subject.source → pixels ≡ s.stage_pixels → desk ≡ record { subject = subject; journal = [] }
    → runs ≡ replicate (s.workers + 1) None → cache ≡ stage_cache one s.stage_entries pixels [] → levels ≡ record { source = two; levels = start_levels s.mip_slots s.workers }
    → Starts subject desk runs cache levels
starts_of subject desk runs cache levels s one two pixels set first second count desk_is runs_are cache_is levels_are = record {
  desk_is = desk_is;
  runs_are = runs_are ∙ ap (λ (x : Settings). replicate (x.workers + 1) None) set;
  cache_is = cache_is ∙ ap (λ source. stage_cache source s.stage_entries pixels []) first ∙ ap (λ n. stage_cache subject.source s.stage_entries n []) count
      ∙ ap (λ (x : Settings). stage_cache subject.source x.stage_entries x.stage_pixels []) set;
  levels_are = levels_are ∙ ap (λ source. store_of source s) second ∙ ap (store_of subject.source) set;
}

pub start_keeps : (subject : SubjectSeen) (desk : DeskSeen) (runs : List (Option OpenSeen)) (cache : StageCacheSeen) (levels : StoreSeen) → Starts subject desk runs cache levels
    → IsMachine desk runs cache levels
start_keeps subject desk runs cache levels k =
    subst (λ d. IsMachine d runs cache levels) (sym k.desk_is) (record {
      seated = seated_start subject runs k.runs_are;
      caches = record {
        source = ap (λ (c : StageCacheSeen). c.source) k.cache_is;
        limit = ap (λ (c : StageCacheSeen). c.limit) k.cache_is;
        budget = ap (λ (c : StageCacheSeen). c.budget) k.cache_is;
        levels_source = ap (λ (s : StoreSeen). s.source) k.levels_are;
        holds = ap (λ (s : StoreSeen). length s.levels.holds) k.levels_are ∙ length-replicate (last_worker subject + 1) None;
      };
    })

-- seats that have no run
seen_none : (n : ℕ) → map (option_map run_seen) (replicate n None) ≡ replicate n None
seen_none zero = refl
seen_none (suc n) = ap (λ xs. None ∷ xs) (seen_none n)

pub start_seen : (subject : SubjectSeen) (desk : DeskSeen) (runs : List (Option OpenSeen)) (cache : StageCacheSeen) (levels : StoreSeen) → Starts subject desk runs cache levels
    → core_seen desk runs cache levels ≡ core_of subject
start_seen subject desk runs cache levels k =
    let first : DeskSeen = record { subject = subject; journal = [] } in
    let bare : StageCacheSeen = stage_cache subject.source subject.script.settings.stage_entries subject.script.settings.stage_pixels [] in
    let store : StoreSeen = record { source = subject.source; levels = start_levels subject.script.settings.mip_slots (last_worker subject) } in
    ap (λ d. core_seen d runs cache levels) k.desk_is ∙ ap (λ rs. core_seen first rs cache levels) k.runs_are
    ∙ ap (λ c. core_seen first (replicate (last_worker subject + 1) None) c levels) k.cache_is
    ∙ ap (λ s. core_seen first (replicate (last_worker subject + 1) None) bare s) k.levels_are
    ∙ ap (λ (rs : List (Option Run)). record { subject = subject; journal = []; runs = rs; stages = []; levels = start_levels subject.script.settings.mip_slots (last_worker subject) })
    (seen_none (last_worker subject + 1))

-- ---- the end

-- each run of a machine is of a job that its worker has
pub seated_held : (desk : DeskSeen) (runs : List (Option OpenSeen)) → AreSeated desk runs → AreHeld desk runs
seated_held desk runs k = record { slots = k.slots; says = λ n within. k.says n; jobs = k.jobs }

at_front : (rs : List (Option OpenSeen)) (x : Option OpenSeen) (n : ℕ) → n < length rs → run_at (rs ++ x ∷ []) n ≡ run_at rs n
at_front rs x n within = get_or_append_left rs (x ∷ []) None n within

front_within : (rs : List (Option OpenSeen)) (x : Option OpenSeen) (n : ℕ) → n < length rs → n < length (rs ++ x ∷ [])
front_within rs x n within = omega (arith, within, length-append rs (x ∷ []))

last_within : (rs : List (Option OpenSeen)) (x : Option OpenSeen) → length rs < length (rs ++ x ∷ [])
last_within rs x = omega (arith, length-append rs (x ∷ []))

-- the last seat is left out
pub held_front : (desk : DeskSeen) (items rs : List (Option OpenSeen)) (seat : Option OpenSeen) → items ≡ rs ++ seat ∷ [] → AreHeld desk items → AreHeld desk rs
held_front desk items rs seat is k =
    let all : AreHeld desk (rs ++ seat ∷ []) = subst (AreHeld desk) is k in
    record {
      slots = all.slots;
      says = λ n within. subst (λ r. Says desk.subject.script (now desk) n (line_at r)) (at_front rs seat n within) (all.says n (front_within rs seat n within));
      jobs = λ n o at. all.jobs n o (at_front rs seat n (run_within rs n o at) ∙ at);
    }

-- its run, and what its worker has
last_at : (items rs : List (Option OpenSeen)) (seat : Option OpenSeen) (o : OpenSeen) → items ≡ rs ++ seat ∷ [] → seat ≡ Some o → run_at items (length rs) ≡ Some o
last_at items rs seat o is some = ap (λ xs. run_at xs (length rs)) is ∙ get_or_push rs seat None (length rs) refl ∙ some

last_in : (items rs : List (Option OpenSeen)) (seat : Option OpenSeen) → items ≡ rs ++ seat ∷ [] → length rs < length items
last_in items rs seat is = subst (λ (xs : List (Option OpenSeen)). length rs < length xs) (sym is) (last_within rs seat)

-- its job may be given back
pub may_give_back : (desk : DeskSeen) (items rs : List (Option OpenSeen)) (seat : Option OpenSeen) (o : OpenSeen) (j : JobSeen) → items ≡ rs ++ seat ∷ [] → seat ≡ Some o → j ≡ o.job
    → AreHeld desk items → (j.subject ≡ desk.subject) × May desk.subject.script (now desk) (back_entry j.name j.worker)
may_give_back desk items rs seat o j is some same k =
    let at = last_at items rs seat o is some in
    let mine = k.jobs (length rs) o at in
    let held = holds_run desk items (length rs) o (k.says (length rs) (last_in items rs seat is)) at in
    subst (λ (x : JobSeen). (x.subject ≡ desk.subject) × May desk.subject.script (now desk) (back_entry x.name x.worker)) (sym same)
    (mine.subject_is, may_back desk.subject.script (now desk) (length rs) o.job.worker o.job.name o.job.moment mine.worker_is held)

worker_of-back : (name : JobName) (w : ℕ) → worker_of (back_entry name w) ≡ w
worker_of-back (job.Pipe p) w = refl
worker_of-back (job.Ticket t) w = refl

eqb_off : (a b : ℕ) → (a ≡ b → ⊥) → eqb a b ≡ false
eqb_off a b differ = ⊎_elim (λ (h : (eqb a b ≡ true) × (a ≡ b)). absurd (differ h.1)) (λ (h : (eqb a b ≡ false) × (a ≡ b → ⊥)). h.0) (eqb_tells a b)

-- and what others have is as before
pub held_back : (desk new : DeskSeen) (items rs : List (Option OpenSeen)) (seat : Option OpenSeen) (o : OpenSeen) (j : JobSeen) → items ≡ rs ++ seat ∷ [] → seat ≡ Some o → j ≡ o.job
    → AreHeld desk items → new ≡ with_entry desk (back_entry j.name j.worker) → AreHeld new rs
held_back desk new items rs seat o j is some same k entered =
    let e = back_entry o.job.name o.job.worker in
    let script = desk.subject.script in
    let at = last_at items rs seat o is some in
    let bears : worker_of e ≡ length rs = worker_of-back o.job.name o.job.worker ∙ (k.jobs (length rs) o at).worker_is in
    let may = (may_give_back desk items rs seat o o.job is some refl k).1 in
    let front = held_front desk items rs seat is k in
    let one : new ≡ with_entry desk e = entered ∙ ap (λ (x : JobSeen). with_entry desk (back_entry x.name x.worker)) same in
    subst (λ d. AreHeld d rs) (sym one) (record {
      slots = slots_entered desk e k.slots;
      says = λ n within. subst (Says script (now (with_entry desk e)) n) (cond_off (worker_of e == n) _ _ (eqb_off (worker_of e) n (λ same. apart n within (sym bears ∙ same))))
          (says_entered desk e n (line_at (run_at rs n)) k.slots may (front.says n within));
      jobs = front.jobs;
    })
  where
    apart : (n : ℕ) → n < length rs → length rs ≡ n → ⊥
    apart n within same = omega (arith, within, same)
