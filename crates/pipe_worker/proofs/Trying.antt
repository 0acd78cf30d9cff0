-- An attempt from its parts.
use Rattle.std.proofs.Common.{◌≡◌, ℕ, ◌+◌, ◌≤◌, true, List, [], ◌∷◌, ◌++◌, Option, Some, refl, sym, ap, ◌∙◌, arith, subst, inr}
use Rattle.dev_core.specs.Jobs.{JobSeen}
use Rattle.shared_stage.specs.declared.event.StageEvent.{StageEvent}
use Rattle.shared_stage.specs.declared.event.StageEvent.TheVariants.{Find, Keep}
use Rattle.shared_mips.specs.declared.event.MipEvent.{MipEvent}
use Rattle.pipe_worker.specs.declared.ends.Attempt.{Attempt}
use Rattle.pipe_worker.specs.declared.ends.Attempt.TheVariants as attempt
use Rattle.pipe_worker.specs.declared.looks.Looked.TheVariants as looked
use Rattle.pipe_worker.specs.declared.passes.Passes.{Passes}
use Rattle.pipe_worker.specs.Job.{is_pipe_job, count_for, show_for, stages_for}
use Rattle.pipe_worker.specs.Grew.{DeskKnown, Grew, Saw, Shows}
use Rattle.pipe_worker.specs.Routes.{MipKnown, IsInput}
use Rattle.pipe_worker.specs.Runs.{StageKnown, found_length, AreKeeps, keeps, Went}
use Rattle.pipe_worker.specs.Attempts.{Began, MadeBy, Tells, Tried, Shown, spared, Moved}
use Rattle.pipe_worker.proofs.Growing.{grew_more, grew_none, saw_more, saw_less}

keeps_count : (j : JobSeen) (w k m : ℕ) (es : List StageEvent) → AreKeeps j w k m es → k + keeps es ≡ m
keeps_count j w k m [] h = omega (arith, h)
keeps_count j w k m (Keep u p r b ∷ es) h = omega (arith, keeps_count j w (k + 1) m es h.2)
keeps_count j w k m (Find u l b ∷ es) h = absurd h

keeps_at : (j : JobSeen) (v w k l m n : ℕ) (es : List StageEvent) → v ≡ w → k ≡ l → m ≡ n → AreKeeps j v k m es → AreKeeps j w l n es
keeps_at j v w k l m n es e f g h = subst (λ x. AreKeeps j w l x es) g (subst (λ x. AreKeeps j w x m es) f (subst (λ x. AreKeeps j x k m es) e h))

tells_shown : (j : JobSeen) (old new : Passes) (gain : List StageEvent) (mip_gain : List MipEvent) (r : Attempt)
    → (Shows j new.desk looked.Go → MadeBy j 1 old new gain mip_gain) → Shown j new.desk r → Tells j 1 old new gain mip_gain r
tells_shown j old new gain mip_gain (attempt.Made f) made s = (made s.0, s.1)
tells_shown j old new gain mip_gain (attempt.Superseded k) made s = s
tells_shown j old new gain mip_gain attempt.Memory made s = tt

-- the beginning, all nodes, and the last look with what it gives
pub shown_tried : (j : JobSeen) (first m t u : ℕ) (old new : Passes) (d : DeskKnown) (s : StageKnown) (r : Attempt)
    → Began j first old.stage s old.mips new.mips → Went j first m 0 t u old.desk d s new.stage → m ≡ count_for j
    → Saw j d new.desk 1 → Shown j new.desk r → Tried j 1 0 t u old new r
shown_tried j first m t u old new d s r p w e l h =
    let count : first + keeps w.gain ≡ m = keeps_count j s.number first m w.gain w.are_keeps in
    let saw = saw_more j old.desk d new.desk (keeps w.gain) 1 w.desk l in
    let made : Shows j new.desk looked.Go → MadeBy j 1 old new (Find old.stage.number (stages_for j) p.answer ∷ w.gain) p.gain = λ go. record {
      answer = p.answer;
      rest = w.gain;
      stage = refl;
      are_keeps = keeps_at j s.number old.stage.number first (found_length p.answer) m (count_for j) w.gain p.stage.bears p.first_is e w.are_keeps;
      none = λ q. p.none (omega (arith, p.first_is, q));
      input = λ q. p.input (p.first_is ∙ q);
      looks = λ q. omega (arith, saw.looks q, count, p.first_is, e);
      go = go;
    } in
    record {
      gain = Find old.stage.number (stages_for j) p.answer ∷ w.gain;
      mip_gain = p.gain;
      stage = grew_more p.stage w.stage;
      mips = p.mips;
      desk = saw_less j old.desk new.desk (keeps w.gain + 1) 0 (omega arith) saw;
      least = w.least;
      most = omega (arith, w.most);
      tells = tells_shown j old new _ p.gain r made h;
    }

-- an attempt that ends before its find
pub early_tried : (j : JobSeen) (more cost t u : ℕ) (old : Passes) (d : DeskKnown) (r : Attempt) → Saw j old.desk d 1 → t ≤ u → u ≤ t + cost
    → Tells j more old (record old { desk = d }) [] [] r → Tried j more cost t u old (record old { desk = d }) r
early_tried j more cost t u old d r w least most tells = record {
  gain = [];
  mip_gain = [];
  stage = grew_none old.stage;
  mips = grew_none old.mips;
  desk = saw_less j old.desk d 1 0 (omega arith) w;
  least = omega (arith, least);
  most = omega (arith, most);
  tells = tells;
}

tells_after : (j : JobSeen) (old mid new : Passes) (gain : List StageEvent) (mip_gain : List MipEvent) (r : Attempt) → mid.stage ≡ old.stage → mid.mips ≡ old.mips
    → Saw j old.desk mid.desk 1 → Tells j 1 mid new gain mip_gain r → Tells j 2 old new gain mip_gain r
tells_after j old mid new gain mip_gain (attempt.Made f) e k w h =
    let m = h.0 in (
      record {
        answer = m.answer;
        rest = m.rest;
        stage = m.stage ∙ ap (λ (s : StageKnown). Find s.number (stages_for j) m.answer ∷ m.rest) e;
        are_keeps = subst (λ (s : StageKnown). AreKeeps j s.number (found_length m.answer) (count_for j) m.rest) e m.are_keeps;
        none = m.none;
        input = λ q. subst (λ (s : MipKnown). IsInput s.number (show_for j).level mip_gain) k (m.input q);
        looks = λ q. omega (arith, w.looks q, m.looks q);
        go = m.go;
      },
      h.1,
    )
tells_after j old mid new gain mip_gain (attempt.Superseded x) e k w h = h
tells_after j old mid new gain mip_gain attempt.Memory e k w h = tt

-- the look and the nodes' synching before the rest
pub synced_tried : (j : JobSeen) (cost t u v : ℕ) (old new : Passes) (d : DeskKnown) (r : Attempt) → Saw j old.desk d 1 → t ≤ u → u ≤ t + cost
    → Tried j 1 0 u v (record old { desk = d }) new r → Tried j 2 cost t v old new r
synced_tried j cost t u v old new d r w least most i =
    let saw = saw_more j old.desk d new.desk 1 0 w i.desk in
    record {
      gain = i.gain;
      mip_gain = i.mip_gain;
      stage = i.stage;
      mips = i.mips;
      desk = saw_less j old.desk new.desk (1 + 0) 0 (omega arith) saw;
      least = omega (arith, i.least, least);
      most = omega (arith, i.most, most);
      tells = tells_after j old (record old { desk = d }) new i.gain i.mip_gain r refl refl w i.tells;
    }

-- the last moment after an attempt that brought its nodes in step
pub moved_to : (j : JobSeen) (a b : Option ℕ) (t u : ℕ) (r : Attempt) → b ≡ Some j.moment → Moved j a b t u r
moved_to j a b t u (attempt.Made f) e = e
moved_to j a b t u (attempt.Superseded k) e = inr e
moved_to j a b t u attempt.Memory e = tt
