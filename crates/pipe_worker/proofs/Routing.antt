-- The six lists, from their parts.
use Rattle.std.proofs.Common.{◌≡◌, ℕ, ◌<◌, zero, suc, List, [], ◌∷◌, ◌++◌, Option, Some, None, Result, Ok, Err, IfOk, OnOk, refl, sym, ap, ◌∙◌, arith, subst}
use Rattle.turn_lock.specs.Turned.{Turned}
use Rattle.level_store.specs.declared.hold.ReachAnswer.{ReachAnswer}
use Rattle.level_store.specs.declared.hold.ReachAnswer.TheVariants as answer
use Rattle.shared_mips.specs.declared.event.MipEvent.{MipEvent}
use Rattle.shared_mips.specs.declared.event.MipEvent.TheVariants.{Reach, Demote, Leave, Evict}
use Rattle.shared_mips.specs.declared.reached.SharedReached.{SharedReached}
use Rattle.shared_mips.specs.declared.reached.SharedReached.TheVariants as shared
use Rattle.shared_mips.specs.Story.{worker_of}
use Rattle.shared_mips.specs.Index.{reach_adds}
use Rattle.shared_mips.specs.Shared.{answer_of, answered}
use Rattle.std.specs.declared.alloc.AllocError.{AllocError}
use Rattle.pipe_worker.specs.Grew.{Grew}
use Rattle.pipe_worker.specs.Routes.{MipKnown, Way, Found, Filled, Awaited, Route, Direct, NoneFree, StillFull, Freed, way_events, route_events, IsInput, Front, First, Refused, After, front_events, Fits, rest_events}
use Rattle.pipe_worker.proofs.Growing.{grew_turned, grew_more}

-- what is reached after an eviction
pub reached_after : (result : Result SharedReached AllocError) (a b c d : MipKnown) (l k : ℕ) (first : SharedReached) (evicted : Option ℕ)
    → first ≡ shared.Full → evicted ≡ Some k
    → Turned worker_of a b (Reach a.number l (answer_of first) ∷ []) → Turned worker_of b c (Evict b.number evicted ∷ [])
    → Turned worker_of c d (reach_adds c.number l (answered result))
    → IfOk result (λ r. (f : Front) × Fits f (answer_of r) × Grew a d (front_events a.number l f (answer_of r)))
reached_after (Err e) a b c d l k first evicted is_full is_some one two three = tt
reached_after (Ok r) a b c d l k first evicted is_full is_some one two three =
    let p = grew_turned worker_of one in
    let q = grew_turned worker_of two in
    let s = grew_turned worker_of three in
    let n = q.bears ∙ p.bears in
    let all = grew_more (grew_more p q) s in (
      After k,
      tt,
      record {
        lock = all.lock;
        called = all.called;
        out = all.out;
        bears = all.bears;
        own = all.own ∙ (ap (λ (x : SharedReached). a.own ++ (Reach a.number l (answer_of x) ∷ Evict b.number evicted ∷ Reach c.number l (answer_of r) ∷ [])) is_full
            ∙ (ap (λ (x : Option ℕ). a.own ++ (Reach a.number l answer.Full ∷ Evict b.number x ∷ Reach c.number l (answer_of r) ∷ [])) is_some
            ∙ (ap (λ x. a.own ++ (Reach a.number l answer.Full ∷ Evict x (Some k) ∷ Reach c.number l (answer_of r) ∷ [])) p.bears
            ∙ ap (λ x. a.own ++ (Reach a.number l answer.Full ∷ Evict a.number (Some k) ∷ Reach x l (answer_of r) ∷ [])) n)));
      },
    )

routed : (w l : ℕ) (f : Front) (a : ReachAnswer) → Fits f a → (r : Route) × (front_events w l f a ++ rest_events w l a ≡ route_events w l r)
routed w l First answer.Read h = (Direct Found, refl)
routed w l First answer.Write h = (Direct Filled, refl)
routed w l First (answer.Pending v) h = (Direct (Awaited v), refl)
routed w l First answer.Full h = absurd h
routed w l Refused answer.Read h = absurd h
routed w l Refused answer.Write h = absurd h
routed w l Refused (answer.Pending v) h = absurd h
routed w l Refused answer.Full h = (NoneFree, refl)
routed w l (After k) answer.Read h = (Freed k Found, refl)
routed w l (After k) answer.Write h = (Freed k Filled, refl)
routed w l (After k) (answer.Pending v) h = (Freed k (Awaited v), refl)
routed w l (After k) answer.Full h = (StillFull k, refl)

is_input : (w l : ℕ) (r : Route) (gain : List MipEvent) → 0 < l → gain ≡ route_events w l r → IsInput w l gain
is_input w zero r gain h e = absurd (omega arith)
is_input w (suc l) r gain h e = (r, e)

-- what was reached and then used is an input
pub used : {A E : Type 0} (result : Result A E) (a b c : MipKnown) (l : ℕ) (reached : SharedReached) → 0 < l
    → ((f : Front) × Fits f (answer_of reached) × Grew a b (front_events a.number l f (answer_of reached)))
    → OnOk result (Grew b c (rest_events b.number l (answer_of reached)))
    → OnOk result ((gain : List MipEvent) × Grew a c gain × IsInput a.number l gain)
used (Err e) a b c l reached h p q = tt
used (Ok v) a b c l reached h p q =
    let s : Grew a c (front_events a.number l p.0 (answer_of reached) ++ rest_events a.number l (answer_of reached))
    = grew_more p.2 (subst (λ n. Grew b c (rest_events n l (answer_of reached))) p.2.bears q) in
    let r = routed a.number l p.0 (answer_of reached) p.1 in
    (front_events a.number l p.0 (answer_of reached) ++ rest_events a.number l (answer_of reached), s, is_input a.number l r.0 _ h r.1)
