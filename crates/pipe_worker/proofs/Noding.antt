-- One node more.
use Rattle.std.proofs.Common.{◌≡◌, ℕ, ◌+◌, ◌≤◌, true, List, [], ◌∷◌, ◌++◌, Some, slice_get, refl, sym, ap, ◌∙◌, arith, subst}
use Rattle.px.specs.Area.{Area}
use Rattle.pipe_nodes.specs.Prefix.{PrefixSeen}
use Rattle.stage_cache.specs.declared.kept.Kept.{Kept}
use Rattle.dev_core.specs.Jobs.{JobSeen}
use Rattle.shared_stage.specs.declared.event.StageEvent.{StageEvent}
use Rattle.shared_stage.specs.declared.event.StageEvent.TheVariants.{Find, Keep}
use Rattle.pipe_worker.specs.Job.{stages_for}
use Rattle.pipe_worker.specs.Grew.{DeskKnown, Grew, Saw}
use Rattle.pipe_worker.specs.Runs.{StageKnown, AreKeeps, IsKept, keeps, Went}
use Rattle.pipe_worker.proofs.Growing.{grew_more, saw_more}

-- a Keep of the next length goes on
keeps_more : (j : JobSeen) (w k m : ℕ) (es : List StageEvent) (v : ℕ) (p : PrefixSeen) (r : Area) (a : Kept) → v ≡ w → slice_get (stages_for j) m ≡ Some (p, r) → AreKeeps j w k m es
    → AreKeeps j w k (m + 1) (es ++ Keep v p r a ∷ [])
keeps_more j w k m [] v p r a n there h = (n, ap (slice_get (stages_for j)) h ∙ there, ap (λ x. x + 1) h)
keeps_more j w k m (Keep u q s b ∷ es) v p r a n there h = (h.0, h.1, keeps_more j w (k + 1) m es v p r a n there h.2)
keeps_more j w k m (Find u l b ∷ es) v p r a n there h = absurd h

pub keeps_append : (xs ys : List StageEvent) → keeps (xs ++ ys) ≡ keeps xs + keeps ys
keeps_append [] ys = omega arith
keeps_append (Keep u p r b ∷ es) ys = omega (arith, keeps_append es ys)
keeps_append (Find u l b ∷ es) ys = keeps_append es ys

-- one node more, after its look
pub went_more : (j : JobSeen) (first k t u v : ℕ) (d e f : DeskKnown) (s x y : StageKnown)
    → Went j first k 0 t u d e s x → Saw j e f 1 → IsKept j k x y → v ≡ u + 1 → Went j first (k + 1) 0 t v d f s y
went_more j first k t u v d e f s x y w l n tick =
    let one : List StageEvent = Keep x.number n.prefix n.region n.answer ∷ [] in
    let more : keeps (w.gain ++ one) ≡ keeps w.gain + 1 = keeps_append w.gain one in
    record {
      gain = w.gain ++ one;
      stage = grew_more w.stage n.grew;
      are_keeps = keeps_more j s.number first k w.gain x.number n.prefix n.region n.answer w.stage.bears n.there w.are_keeps;
      desk = subst (λ m. Saw j d f m) (sym more) (saw_more j d e f (keeps w.gain) 1 w.desk l);
      least = omega (arith, more, w.least, tick);
      most = omega (arith, more, w.most, tick);
    }
