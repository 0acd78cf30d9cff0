-- A story that replays still does so with one call more.
use Rattle.std.proofs.Common.{◌≡◌, ℕ, ◌≤◌, List, [], ◌∷◌, ◌++◌, length, Option, Result, Ok, Err, refl, sym, ap, ◌∙◌, subst, arith}
use Rattle.std.proofs.lemmas.List.{length-append}
use Rattle.turn_lock.specs.Story.{AllBear}
use Rattle.pipe_nodes.specs.Staged.{StagedSeen}
use Rattle.stage_cache.specs.declared.kept.Kept.{Kept}
use Rattle.stage_cache.specs.Stages.{Stage}
use Rattle.stage_cache.specs.StageCache.{StageCacheSeen}
use Rattle.shared_stage.specs.declared.event.StageEvent.{StageEvent}
use Rattle.shared_stage.specs.declared.stage_name.StageName.{StageName}
use Rattle.shared_stage.specs.Story.{MayCome, stages_next, stages_from, ReplaysFrom, Replays, stages_after, worker_of, find_adds, keep_adds}
use Rattle.shared_stage.specs.State.{name_of, Keeps}

module _ (name : StageName) where
  stages_from-push : (stages : List Stage) (es : List StageEvent) (e : StageEvent) → stages_from name stages (es ++ e ∷ []) ≡ stages_next name (stages_from name stages es) e
  stages_from-push stages [] e = refl
  stages_from-push stages (d ∷ es) e = stages_from-push (stages_next name stages d) es e

  replays-push : (stages : List Stage) (es : List StageEvent) (e : StageEvent) → ReplaysFrom name stages es → MayCome name (stages_from name stages es) e → ReplaysFrom name stages (es ++ e ∷ [])
  replays-push stages [] e h m = (m, tt)
  replays-push stages (d ∷ es) e h m = (h.0, replays-push (stages_next name stages d) es e h.1 m)

  -- the last call may come over the entries that the others leave
  pub replays_last : (stages : List Stage) (es : List StageEvent) (e : StageEvent) → ReplaysFrom name stages (es ++ e ∷ []) → MayCome name (stages_from name stages es) e
  replays_last stages [] e h = h.0
  replays_last stages (d ∷ es) e h = replays_last (stages_next name stages d) es e h.1

-- a call on the cache that is noted in the story
pub noted : (c new : StageCacheSeen) (story longer : List StageEvent) (e : StageEvent) → Keeps c story → new ≡ record c { stages = stages_next (name_of c) c.stages e }
    → MayCome (name_of c) c.stages e → longer ≡ story ++ e ∷ [] → Keeps new longer
noted c new story longer e k is may more =
    let name = name_of c in
    subst (λ (x : StageCacheSeen). Keeps x longer) (sym is) record {
      replays = subst (Replays name) (sym more) (replays-push name [] story e k.replays (subst (λ s. MayCome name s e) k.entries may));
      entries = ap (λ s. stages_next name s e) k.entries ∙ (sym (stages_from-push name [] story e) ∙ ap (stages_after name) (sym more));
    }

-- what a call adds bears its number
pub find_bears : {E : Type 0} (worker : ℕ) (list : List Stage) (r : Result (Option (ℕ × StagedSeen)) E) → AllBear worker_of worker (find_adds worker list r)
find_bears worker list (Ok r) = (refl, tt)
find_bears worker list (Err e) = tt

pub keep_bears : {E : Type 0} (worker : ℕ) (s : StagedSeen) (r : Result Kept E) → AllBear worker_of worker (keep_adds worker s r)
keep_bears worker s (Ok kept) = (refl, tt)
keep_bears worker s (Err e) = tt

pub not_shorter : (before after more : List StageEvent) → after ≡ before ++ more → length before ≤ length after
not_shorter before after more e = omega (arith, ap length e, length-append before more)
