-- An index keeps what it keeps behind each call.
use Rattle.std.proofs.Common.{◌≡◌, ◌≢◌, ℕ, ◌+◌, ◌*◌, ◌<◌, ◌≤◌, List, [], ◌∷◌, ◌++◌, length, refl, sym, ap, subst, ◌∙◌, arith, length-append, Option, Some, None}
use Rattle.std.specs.Prelude.{slice_set, sum_by, IfSome}
use Rattle.std.proofs.lemmas.List.{set-get_or}
use Rattle.std.proofs.lemmas.List.Sums.{sum_by-set, sum_by-cons, get_or-le-sum_by}
use Rattle.mip_cache.specs.declared.entry.Held.TheVariants.{Writing, Ready}
use Rattle.mip_cache.specs.declared.entry.Entry.{Entry}
use Rattle.mip_cache.specs.Mipmaps.{Mipmaps, held_at, readers_at, reach_answer, after_reach, after_demote, after_abandon, after_leave, evict_answer, left_by_evict, after_evict, KeepsOthers}
use Rattle.mip_cache.specs.Slots.{IsLevel}
use Rattle.level_store.specs.declared.hold.Hold.{Hold}
use Rattle.level_store.specs.declared.hold.Hold.TheVariants.{Writes, Reads}
use Rattle.level_store.specs.declared.hold.ReachAnswer.{ReachAnswer}
use Rattle.level_store.specs.Levels as held
use Rattle.level_store.specs.Levels.{reached_answer}
use Rattle.shared_mips.specs.declared.event.MipEvent.{MipEvent}
use Rattle.shared_mips.specs.declared.event.MipEvent.TheVariants.{Reach, Demote, Abandon, Leave, Evict}
use Rattle.shared_mips.specs.Story.{worker_of, reach_hold, hold_after, hold_in, after, MayFollow}
use Rattle.shared_mips.specs.Agreed.{no_holds, holds_after, holds_of, Agreed, needs}
use Rattle.shared_mips.specs.Index.{IsIndex}
use Rattle.shared_mips.proofs.StoryLemmas.{entries_more, holds_more, replays_more, holds_in}
use Rattle.shared_mips.proofs.AgreedLemmas.{agreed_reached, agreed_demoted, agreed_abandoned, agreed_left, agreed_evicted, agreed_none, written_by, not_writing, few_readers, some_reader}

abbrev with_entries : Mipmaps → List Entry → Mipmaps
with_entries m entries = record { slots = m.slots; entries = entries }

-- one element more
grows : (m n : Mipmaps) (story items : List MipEvent) (cap cap_now : ℕ) (e : MipEvent) → IsIndex m story cap → n ≡ with_entries m (after m.slots m.entries e) → items ≡ story ++ e ∷ []
    → MayFollow m.slots story m.entries e → Agreed (after m.slots m.entries e) (holds_after (holds_of story) e)
    → (length story + 1) + sum_by needs (holds_after (holds_of story) e) ≤ cap_now → IsIndex n items cap_now
grows m n story items cap cap_now e i now longer may agreed room =
    let more = holds_more no_holds story e in
    let grown : IsIndex (with_entries m (after m.slots m.entries e)) (story ++ e ∷ []) cap_now = record {
      entries = ap (λ es. after m.slots es e) i.entries ∙ sym (entries_more m.slots [] story e);
      replays = replays_more m.slots story e i.replays (subst (λ es. MayFollow m.slots story es e) i.entries may);
      agreed = subst (Agreed (after m.slots m.entries e)) (sym more) agreed;
      room = omega (arith, room, ap (sum_by needs) more, length-append story (e ∷ []));
    } in
    subst (λ (x : Mipmaps). IsIndex x items cap_now) (sym now) (subst (λ l. IsIndex (with_entries m (after m.slots m.entries e)) l cap_now) (sym longer) grown)

-- what a pass holds, by the list of all holds
own_is : (m : Mipmaps) (story : List MipEvent) (cap w : ℕ) (h : Option Hold) → IsIndex m story cap → w < 16 → hold_in w story ≡ h → held.hold_in (holds_of story) w ≡ h
own_is m story cap w h i small is = holds_in story w small ∙ is

-- ---- what the calls need

pub may_write : (m : Mipmaps) (story : List MipEvent) (cap w level : ℕ) → IsIndex m story cap → w < 16 → hold_in w story ≡ Some (Writes level) → held_at level m.entries ≡ Some (Writing w)
may_write m story cap w level i small is = written_by m.entries (holds_of story) w level i.agreed (own_is m story cap w (Some (Writes level)) i small is)

pub may_read : (m : Mipmaps) (story : List MipEvent) (cap w level : ℕ) → IsIndex m story cap → w < 16 → hold_in w story ≡ Some (Reads level) → 1 ≤ readers_at level m.entries
may_read m story cap w level i small is = some_reader m.entries (holds_of story) w level i.agreed small (own_is m story cap w (Some (Reads level)) i small is)

pub may_reach : (m : Mipmaps) (story : List MipEvent) (cap w level : ℕ) → IsIndex m story cap → w < 16 → hold_in w story ≡ None → held_at level m.entries ≢ Some (Writing w)
may_reach m story cap w level i small is = not_writing m.entries (holds_of story) w level i.agreed (own_is m story cap w None i small is)

-- where a pass holds something, there is room for one element
pub room_left : (m : Mipmaps) (story : List MipEvent) (cap w : ℕ) (h : Option Hold) → IsIndex m story cap → w < 16 → hold_in w story ≡ h → 1 ≤ needs h → length story < cap
room_left m story cap w h i small is some =
    omega (arith, i.room, some, ap needs (own_is m story cap w h i small is), get_or-le-sum_by needs (holds_of story) w None (omega (arith, small, i.agreed.count)))

-- ---- the calls

-- an element after which its pass needs fewer
ends : (m n : Mipmaps) (story items : List MipEvent) (cap cap_now : ℕ) (e : MipEvent) (h : Option Hold) → IsIndex m story cap → worker_of e < 16 → hold_in (worker_of e) story ≡ h
    → n ≡ with_entries m (after m.slots m.entries e) → items ≡ story ++ e ∷ [] → cap_now ≡ cap
    → MayFollow m.slots story m.entries e → Agreed (after m.slots m.entries e) (holds_after (holds_of story) e)
    → needs (hold_after (held.hold_in (holds_of story) (worker_of e)) e) + 1 ≤ needs h → IsIndex n items cap_now
ends m n story items cap cap_now e h i small is now longer same may agreed fewer =
    let holds = holds_of story in
    let next = hold_after (held.hold_in holds (worker_of e)) e in
    let set = sum_by-set needs holds (worker_of e) next None (omega (arith, small, i.agreed.count)) in
    let had = ap needs (own_is m story cap (worker_of e) h i small is) in
    grows m n story items cap cap_now e i now longer may agreed (omega (arith, i.room, same, set, had, fewer))

pub index_demoted : (m n : Mipmaps) (story items : List MipEvent) (cap cap_now w level : ℕ) → IsIndex m story cap → w < 16 → hold_in w story ≡ Some (Writes level)
    → n ≡ with_entries m (after_demote level m.entries) → items ≡ story ++ Demote w level ∷ [] → cap_now ≡ cap → IsIndex n items cap_now
index_demoted m n story items cap cap_now w level i small is now longer same =
    ends m n story items cap cap_now (Demote w level) (Some (Writes level)) i small is now longer same
    (record { seat = small; holds = is; written = may_write m story cap w level i small is })
    (agreed_demoted m.entries (holds_of story) w level i.agreed small (own_is m story cap w (Some (Writes level)) i small is)) (omega arith)

pub index_abandoned : (m n : Mipmaps) (story items : List MipEvent) (cap cap_now w level : ℕ) → IsIndex m story cap → w < 16 → hold_in w story ≡ Some (Writes level)
    → n ≡ with_entries m (after_abandon level m.entries) → items ≡ story ++ Abandon w level ∷ [] → cap_now ≡ cap → IsIndex n items cap_now
index_abandoned m n story items cap cap_now w level i small is now longer same =
    ends m n story items cap cap_now (Abandon w level) (Some (Writes level)) i small is now longer same
    (record { seat = small; holds = is; written = may_write m story cap w level i small is })
    (agreed_abandoned m.entries (holds_of story) w level i.agreed small (own_is m story cap w (Some (Writes level)) i small is)) (omega arith)

pub index_left : (m n : Mipmaps) (story items : List MipEvent) (cap cap_now w level : ℕ) → IsIndex m story cap → w < 16 → hold_in w story ≡ Some (Reads level)
    → n ≡ with_entries m (after_leave level m.entries) → items ≡ story ++ Leave w level ∷ [] → cap_now ≡ cap → IsIndex n items cap_now
index_left m n story items cap cap_now w level i small is now longer same =
    ends m n story items cap cap_now (Leave w level) (Some (Reads level)) i small is now longer same
    (record { seat = small; holds = is; read = may_read m story cap w level i small is })
    (agreed_left m.entries (holds_of story) w level i.agreed small (own_is m story cap w (Some (Reads level)) i small is)) (omega arith)

-- all holds together need few elements
needs_few : (h : Option Hold) → needs h ≤ 2
needs_few None = omega arith
needs_few (Some (Writes level)) = omega arith
needs_few (Some (Reads level)) = omega arith

most_owed : (holds : List (Option Hold)) → sum_by needs holds ≤ 2 * length holds
most_owed [] = omega arith
most_owed (h ∷ hs) = omega (arith, sum_by-cons needs h hs, needs_few h, most_owed hs)

-- an element for which room was made
opens : (m n : Mipmaps) (story items : List MipEvent) (cap cap_now : ℕ) (e : MipEvent) → IsIndex m story cap
    → n ≡ with_entries m (after m.slots m.entries e) → items ≡ story ++ e ∷ [] → length story + 33 ≤ cap_now
    → MayFollow m.slots story m.entries e → Agreed (after m.slots m.entries e) (holds_after (holds_of story) e) → IsIndex n items cap_now
opens m n story items cap cap_now e i now longer room may agreed =
    grows m n story items cap cap_now e i now longer may agreed (omega (arith, room, agreed.count, most_owed (holds_after (holds_of story) e)))

pub index_reached : (m n : Mipmaps) (story items : List MipEvent) (cap cap_now w level : ℕ) (answer : ReachAnswer) → IsIndex m story cap → w < 16 → IsLevel level → hold_in w story ≡ None
    → answer ≡ reached_answer (reach_answer m.slots w level m.entries)
    → n ≡ with_entries m (after_reach m.slots w level m.entries) → items ≡ story ++ Reach w level answer ∷ [] → length story + 33 ≤ cap_now → IsIndex n items cap_now
index_reached m n story items cap cap_now w level answer i small is_level bare is now longer room =
    let holds = holds_of story in
    opens m n story items cap cap_now (Reach w level answer) i now longer room
    (record {
      seat = small;
      range = is_level;
      bare = bare;
      other = may_reach m story cap w level i small bare;
      few = omega (arith, few_readers m.entries holds level i.agreed);
      answer_is = is;
    })
    (subst (λ a. Agreed (after_reach m.slots w level m.entries) (slice_set holds w (reach_hold level a))) (sym is)
    (agreed_reached m.slots w level m.entries holds i.agreed small is_level (own_is m story cap w None i small bare)))

-- what an eviction says of the level that went
abbrev Went : List Entry → List Entry → Option ℕ → Type 0
Went old new (Some level) = (held_at level old ≡ Some (Ready 0)) × (held_at level new ≡ None) × KeepsOthers level old new
Went old new None = new ≡ old

went_is : (old new : List Entry) (gone : Option ℕ) → IfSome gone (λ level. held_at level old ≡ Some (Ready 0)) → IfSome gone (λ level. held_at level new ≡ None) → IfSome gone (λ level. KeepsOthers level old new)
    → gone ≡ evict_answer old → new ≡ after_evict old → Went old new gone
went_is old new (Some level) unread away others is now = (unread, away, others)
went_is old new None unread away others is now = now ∙ ap (left_by_evict old) (sym is)

agreed_went : (old new : List Entry) (holds : List (Option Hold)) (gone : Option ℕ) → Agreed old holds → Went old new gone → Agreed new holds
agreed_went old new holds (Some level) a went = agreed_evicted old new holds level a went.0 went.1 went.2
agreed_went old new holds None a went = subst (λ es. Agreed es holds) (sym went) a

pub index_evicted : (m n : Mipmaps) (story items : List MipEvent) (cap cap_now w : ℕ) (answer : Option ℕ) → IsIndex m story cap → w < 16 → answer ≡ evict_answer m.entries
    → n ≡ with_entries m (after_evict m.entries) → IfSome answer (λ level. held_at level m.entries ≡ Some (Ready 0)) → IfSome answer (λ level. held_at level n.entries ≡ None)
    → IfSome answer (λ level. KeepsOthers level m.entries n.entries) → items ≡ story ++ Evict w answer ∷ [] → length story + 33 ≤ cap_now → IsIndex n items cap_now
index_evicted m n story items cap cap_now w answer i small is now unread away others longer room =
    let holds = holds_of story in
    let went = went_is m.entries n.entries answer unread away others is (ap (λ (x : Mipmaps). x.entries) now) in
    let agreed = agreed_went m.entries n.entries holds answer i.agreed went in
    opens m n story items cap cap_now (Evict w answer) i now longer room (record { seat = small; answer_is = is })
    (subst (Agreed (after_evict m.entries)) (sym (set-get_or holds w None)) (subst (λ (x : Mipmaps). Agreed x.entries holds) now agreed))

nothing_owed : sum_by needs no_holds ≡ 0
unfolding no_holds
nothing_owed = refl

-- nothing happened yet
pub index_new : (slots : ℕ) (m : Mipmaps) (story : List MipEvent) (cap : ℕ) → m ≡ record { slots = slots; entries = [] } → story ≡ [] → IsIndex m story cap
index_new slots m story cap is none =
    subst (λ (x : Mipmaps). IsIndex x story cap) (sym is) (subst (λ l. IsIndex (record { slots = slots; entries = [] }) l cap) (sym none) (record {
      entries = refl;
      replays = tt;
      agreed = agreed_none;
      room = omega (arith, nothing_owed);
    }))
