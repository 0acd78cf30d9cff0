-- What one turn adds, and what its pass holds then.
use Rattle.std.proofs.Common.{◌≡◌, ℕ, ◌+◌, ◌-◌, ◌≤◌, true, false, List, [], ◌∷◌, ◌++◌, length, take, refl, sym, ap, subst, ◌∙◌, arith, length-append, Option, None}
use Rattle.std.specs.Prelude.{Result, Ok, Err, IfOk}
use Rattle.std.specs.declared.alloc.AllocError.{AllocError}
use Rattle.px.specs.Cut.{Cut, IsCutOf}
use Rattle.px.specs.Picture.{Picture}
use Rattle.turn_lock.specs.Known.{Known}
use Rattle.turn_lock.specs.Story.{StartsWith, borne, added, AllBear}
use Rattle.turn_lock.specs.Turned.{Turned}
use Rattle.turn_lock.proofs.Turning.{turned}
use Rattle.std.proofs.Math.Seq.{take-append_seam}
use Rattle.mip_cache.specs.Mipmaps.{evict_answer}
use Rattle.level_store.specs.declared.hold.ReachAnswer.{ReachAnswer}
use Rattle.shared_mips.specs.declared.index.MipName.{MipName}
use Rattle.shared_mips.specs.declared.event.MipEvent.{MipEvent}
use Rattle.shared_mips.specs.declared.event.MipEvent.TheVariants.{Reach, Evict}
use Rattle.shared_mips.specs.Story.{worker_of, hold_of, entries_of, told_answer, found, Replays}
use Rattle.shared_mips.specs.Index.{Sheet, reach_adds, evict_adds}
use Rattle.shared_mips.specs.Shared.{reached_hold}
use Rattle.shared_mips.proofs.StoryLemmas.{hold_more, hold_same, replays_last}

-- the story of the index that goes back begins with what the pass has seen
pub goes_on : (old mid : Known MipName MipEvent) (found lent kept : Sheet) (more : List MipEvent) → mid ≡ record old { out = true; seen = found.story; mark = length found.story; turns = old.turns + 1 }
    → lent ≡ found → kept ≡ record lent { story = lent.story ++ more } → StartsWith kept.story mid.seen
goes_on old mid found lent kept more took lends is = (more, ap (λ (s : Sheet). s.story) is ∙ (ap (λ (s : Sheet). s.story ++ more) lends ∙ ap (λ (p : Known MipName MipEvent). p.seen ++ more) (sym took)))

-- a turn that adds these elements, which bear the number of the pass
pub adds : (old mid new : Known MipName MipEvent) (found lent kept : Sheet) (more : List MipEvent) → old.out ≡ false
    → mid ≡ record old { out = true; seen = found.story; mark = length found.story; turns = old.turns + 1 } → StartsWith found.story old.seen → borne worker_of old.number found.story ≡ old.own → old.mark ≤ length found.story
    → new ≡ record mid { out = false; seen = kept.story; mark = length kept.story; own = mid.own ++ added mid.seen kept.story } → lent ≡ found → kept ≡ record lent { story = lent.story ++ more }
    → AllBear worker_of old.number more → Turned worker_of old new more
adds old mid new found lent kept more waits took starts owned rose gave lends is bear =
    let grew : kept.story ≡ found.story ++ more = ap (λ (s : Sheet). s.story) is ∙ ap (λ (s : Sheet). s.story ++ more) lends in
    turned worker_of old mid new found.story kept.story more (length found.story) (length kept.story) waits took starts owned rose gave grew bear (omega (arith, ap length grew, length-append found.story more))

-- the elements bear the number
pub reach_bears : (worker level : ℕ) (r : Result ReachAnswer AllocError) → AllBear worker_of worker (reach_adds worker level r)
reach_bears worker level (Ok answer) = (refl, tt)
reach_bears worker level (Err e) = tt

pub evict_bears : (worker : ℕ) (r : Result (Option ℕ) AllocError) → AllBear worker_of worker (evict_adds worker r)
evict_bears worker (Ok answer) = (refl, tt)
evict_bears worker (Err e) = tt

-- what a pass holds that held nothing and reached
pub reach_held : (own new : List MipEvent) (worker level : ℕ) (r : Result ReachAnswer AllocError) → new ≡ own ++ reach_adds worker level r → hold_of own ≡ None → hold_of new ≡ reached_hold level r
reach_held own new worker level (Ok answer) is bare = hold_more own new _ is
reach_held own new worker level (Err e) is bare = hold_same own new is ∙ bare

-- an eviction leaves what its pass holds
pub evict_held : (own new : List MipEvent) (worker : ℕ) (r : Result (Option ℕ) AllocError) → new ≡ own ++ evict_adds worker r → hold_of new ≡ hold_of own
evict_held own new worker (Ok answer) is = hold_more own new _ is
evict_held own new worker (Err e) is = hold_same own new is

-- what a turn found
found_is : (before seen : List MipEvent) (e : MipEvent) → seen ≡ before ++ e ∷ [] → found seen ≡ before
found_is before seen e is =
    let long : length seen - 1 ≡ length before = omega (arith, ap length is, length-append before (e ∷ [])) in
    ap (λ n. take n seen) long ∙ (ap (take (length before)) is ∙ take-append_seam before (e ∷ []))

-- the answer of a reach is that of one thread's list, on the levels that the turn found
pub reach_answers : (slots worker level : ℕ) (before seen : List MipEvent) (r : Result ReachAnswer AllocError) → seen ≡ before ++ reach_adds worker level r → Replays slots seen
    → IfOk r (λ answer. answer ≡ told_answer slots worker level (found seen))
reach_answers slots worker level before seen (Ok answer) is replays =
    (replays_last slots before (Reach worker level answer) (subst (Replays slots) is replays)).answer_is ∙ ap (told_answer slots worker level) (sym (found_is before seen (Reach worker level answer) is))
reach_answers slots worker level before seen (Err e) is replays = tt

-- and so is that of an eviction
pub evict_answers : (slots worker : ℕ) (before seen : List MipEvent) (r : Result (Option ℕ) AllocError) → seen ≡ before ++ evict_adds worker r → Replays slots seen
    → IfOk r (λ answer. answer ≡ evict_answer (entries_of slots (found seen)))
evict_answers slots worker before seen (Ok answer) is replays =
    (replays_last slots before (Evict worker answer) (subst (Replays slots) is replays)).answer_is ∙ ap (λ l. evict_answer (entries_of slots l)) (sym (found_is before seen (Evict worker answer) is))
evict_answers slots worker before seen (Err e) is replays = tt

-- a part of a plane is a cut of each picture of which the plane is one
pub part_is : (q : Picture) (plane : Cut) (r : Result Cut AllocError) → IfOk r (λ p. (q : Picture) → IsCutOf q plane → IsCutOf q p) → IsCutOf q plane → IfOk r (λ p. IsCutOf q p)
part_is q plane (Ok p) cut is = cut q is
part_is q plane (Err e) cut is = tt
