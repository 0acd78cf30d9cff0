-- The agreement of holds and entries behind each change of one pass's hold and of one level.
use Rattle.std.proofs.Common.{◌≡◌, ◌≢◌, ℕ, ◌+◌, ◌-◌, ◌<◌, ◌≤◌, ◌↔◌, Bool, true, false, List, [], ◌∷◌, length, refl, sym, ap, subst, ◌∙◌, arith, eqb, ⊎_elim, Option, Some, None}
use Rattle.std.specs.Prelude.{slice_set, sum_by, ◌==◌}
use Rattle.std.proofs.lemmas.Bool.Decides.{eqb_tells, nat_tests}
use Rattle.std.proofs.lemmas.List.{length-set, set-get_or}
use Rattle.std.proofs.lemmas.List.Sums.{get_or-le-sum_by, count_by-le-length}
use Rattle.mip_cache.specs.declared.entry.Held.{Held}
use Rattle.mip_cache.specs.declared.entry.Held.TheVariants.{Writing, Ready}
use Rattle.mip_cache.specs.declared.entry.Entry.{Entry}
use Rattle.mip_cache.specs.Mipmaps.{entry, held_at, readers_of, readers_at, without, has_room, reached_by, reach_answer, left_by_reach, after_reach, after_demote, after_abandon, after_leave, KeepsOthers}
use Rattle.mip_cache.specs.Slots.{IsLevel}
use Rattle.mip_cache.proofs.HeldLemmas.{held_at-first, held_at-with_held, held_at-without_same, KeepsOthers-first, KeepsOthers-without, KeepsOthers-with_held}
use Rattle.level_store.specs.declared.hold.Hold.{Hold}
use Rattle.level_store.specs.declared.hold.Hold.TheVariants.{Writes, Reads}
use Rattle.level_store.specs.Levels.{hold_in, reached_answer}
use Rattle.level_store.specs.Agreement.{is_reader_of, AgreesAt}
use Rattle.level_store.proofs.AgreeLemmas.{reads, agrees_set, IsAbout, read_is_ready}
use Rattle.shared_mips.specs.Story.{reach_hold}
use Rattle.shared_mips.specs.Agreed.{Agreed, no_holds}
use Rattle.shared_mips.proofs.StoryLemmas.{length-no_holds, none_holds}

reads_own : (level : ℕ) → reads level (Some (Reads level)) ≡ 1
reads_own level =
    let yes : (level == level) ≡ true = grind (arith, nat_tests) in
    rw yes refl

reads_no_other : (level other : ℕ) (h : Option Hold) → IsAbout level h → other ≢ level → reads other h ≡ 0
reads_no_other level other None about n = refl
reads_no_other level other (Some (Writes l)) about n = refl
reads_no_other level other (Some (Reads l)) about n =
    let no : (l == other) ≡ false = grind (arith, nat_tests) in
    rw no refl

writes_no_other : (level other : ℕ) (h : Option Hold) → IsAbout level h → other ≢ level → h ≡ Some (Writes other) → ⊥
writes_no_other level other None about n e = cc
writes_no_other level other (Some (Writes l)) about n e =
    let same : l ≡ other = cc in
    n (sym same ∙ about)
writes_no_other level other (Some (Reads l)) about n e = cc

ready_not : (n v : ℕ) → ◌≡◌ {A = Option Held} (Some (Ready n)) (Some (Writing v)) → ⊥
ready_not n v e = cc

none_not : (v : ℕ) → ◌≡◌ {A = Option Held} None (Some (Writing v)) → ⊥
none_not v e = cc

reads_not : (m level : ℕ) → ◌≡◌ {A = Option Hold} (Some (Reads m)) (Some (Writes level)) → ⊥
reads_not m level e = cc

nothing_not : (level : ℕ) → ◌≡◌ {A = Option Hold} None (Some (Writes level)) → ⊥
nothing_not level e = cc

writer_is : (v w : ℕ) → ◌≡◌ {A = Option Held} (Some (Writing w)) (Some (Writing v)) → v ≡ w
writer_is v w e = cc

-- One pass's hold changes from h0 to h, one level with it from `before` to `now`, and no other level
agreed_changed : (old new : List Entry) (holds : List (Option Hold)) (w level : ℕ) (before now : Option Held) (h0 h : Option Hold) → Agreed old holds → w < 16 → IsLevel level
    → held_at level old ≡ before → held_at level new ≡ now → hold_in holds w ≡ h0 → KeepsOthers level old new → IsAbout level h0 → IsAbout level h
    → readers_of now + reads level h0 ≡ readers_of before + reads level h
    → ((v : ℕ) → v ≢ w → (now ≡ Some (Writing v)) ↔ (before ≡ Some (Writing v)))
    → ((h ≡ Some (Writes level)) ↔ (now ≡ Some (Writing w)))
    → Agreed new (slice_set holds w h)
agreed_changed old new holds w level before now h0 h a small is_level was is held keeps about0 about count others own = record {
  count = length-set holds w h ∙ a.count;
  each = λ other. ⊎_elim
      (λ (same : (eqb other level ≡ true) × (other ≡ level)). subst (λ l. AgreesAt (slice_set holds w h) l (held_at l new)) (sym same.1) here)
      (λ (n : (eqb other level ≡ false) × (other ≢ level)). subst (AgreesAt (slice_set holds w h) other) (sym (keeps other n.1)) (beside other n.1))
      (eqb_tells other level);
}
  where
    within : w < length holds
    within = omega (arith, small, a.count)

    here : AgreesAt (slice_set holds w h) level (held_at level new)
    here = subst (AgreesAt (slice_set holds w h) level) (sym is)
        (agrees_set holds level w before now h (subst (AgreesAt holds level) was (a.each level)) within (omega (arith, ap (reads level) held, count)) others own (λ x _. is_level))

    beside : (other : ℕ) → other ≢ level → AgreesAt (slice_set holds w h) other (held_at other old)
    beside other n =
        let at = a.each other in
        let none : reads other (hold_in holds w) ≡ 0 = ap (reads other) held ∙ reads_no_other level other h0 about0 n in
        agrees_set holds other w (held_at other old) (held_at other old) h at within
        (omega (arith, none, reads_no_other level other h about n))
        (λ v _. (λ e. e, λ e. e))
        (λ e. absurd (writes_no_other level other h about n e), λ e. absurd (writes_no_other level other h0 about0 n (sym held ∙ at.written w e)))
        at.range

-- nothing changes, and the pass holds what it held
pub agreed_same : (es : List Entry) (holds : List (Option Hold)) (w : ℕ) (h : Option Hold) → Agreed es holds → hold_in holds w ≡ h → Agreed es (slice_set holds w h)
agreed_same es holds w h a held = subst (Agreed es) (sym (set-get_or holds w None) ∙ ap (λ x. slice_set holds w x) held) a

-- ---- the calls

reached_by-agreed : (w level : ℕ) (es : List Entry) (holds : List (Option Hold)) (room : Bool) (before : Option Held) → Agreed es holds → w < 16 → IsLevel level → hold_in holds w ≡ None → held_at level es ≡ before
    → Agreed (left_by_reach w level es room before) (slice_set holds w (reach_hold level (reached_answer (reached_by w level room before))))
reached_by-agreed w level es holds room (Some (Writing v)) a small is_level bare was = agreed_same es holds w None a bare
reached_by-agreed w level es holds room (Some (Ready n)) a small is_level bare was =
    agreed_changed es (entry level (Ready (n + 1)) ∷ without level es) holds w level (Some (Ready n)) (Some (Ready (n + 1))) None (Some (Reads level)) a small is_level was
    (held_at-first level (Ready (n + 1)) (without level es)) bare (KeepsOthers-first level (Ready (n + 1)) es (without level es) (KeepsOthers-without level es)) tt refl
    (omega (arith, reads_own level))
    (λ v _. (λ e. absurd (ready_not (n + 1) v e), λ e. absurd (ready_not n v e)))
    (λ e. absurd (reads_not level level e), λ e. absurd (ready_not (n + 1) w e))
reached_by-agreed w level es holds true None a small is_level bare was =
    agreed_changed es (entry level (Writing w) ∷ es) holds w level None (Some (Writing w)) None (Some (Writes level)) a small is_level was
    (held_at-first level (Writing w) es) bare (KeepsOthers-first level (Writing w) es es (λ _ _. refl)) tt refl
    refl
    (λ v n. (λ e. absurd (n (writer_is v w e)), λ e. absurd (none_not v e)))
    (λ _. refl, λ _. refl)
reached_by-agreed w level es holds false None a small is_level bare was = agreed_same es holds w None a bare

pub agreed_reached : (slots w level : ℕ) (es : List Entry) (holds : List (Option Hold)) → Agreed es holds → w < 16 → IsLevel level → hold_in holds w ≡ None
    → Agreed (after_reach slots w level es) (slice_set holds w (reach_hold level (reached_answer (reach_answer slots w level es))))
agreed_reached slots w level es holds a small is_level bare = reached_by-agreed w level es holds (has_room slots es) (held_at level es) a small is_level bare refl

-- a level that a pass writes is written by it
pub written_by : (es : List Entry) (holds : List (Option Hold)) (w level : ℕ) → Agreed es holds → hold_in holds w ≡ Some (Writes level) → held_at level es ≡ Some (Writing w)
written_by es holds w level a own = (a.each level).writes w own

-- no pass that holds nothing is writing
pub not_writing : (es : List Entry) (holds : List (Option Hold)) (w level : ℕ) → Agreed es holds → hold_in holds w ≡ None → held_at level es ≢ Some (Writing w)
not_writing es holds w level a bare is = nothing_not level (sym bare ∙ (a.each level).written w is)

-- a level has at most as many readers as there are passes
pub few_readers : (es : List Entry) (holds : List (Option Hold)) (level : ℕ) → Agreed es holds → readers_at level es ≤ 16
few_readers es holds level a = omega (arith, (a.each level).readers, count_by-le-length (is_reader_of level) holds, a.count)

-- a level that a pass reads has a reader
pub some_reader : (es : List Entry) (holds : List (Option Hold)) (w level : ℕ) → Agreed es holds → w < 16 → hold_in holds w ≡ Some (Reads level) → 1 ≤ readers_at level es
some_reader es holds w level a small own =
    omega (arith, get_or-le-sum_by (reads level) holds w None (omega (arith, small, a.count)), ap (reads level) own, reads_own level, (a.each level).readers)

-- and is one of the eight
pub level_held : (es : List Entry) (holds : List (Option Hold)) (level : ℕ) (h : Held) → Agreed es holds → held_at level es ≡ Some h → IsLevel level
level_held es holds level h a is = (a.each level).range h is

pub agreed_demoted : (es : List Entry) (holds : List (Option Hold)) (w level : ℕ) → Agreed es holds → w < 16 → hold_in holds w ≡ Some (Writes level)
    → Agreed (after_demote level es) (slice_set holds w (Some (Reads level)))
agreed_demoted es holds w level a small own =
    let was = written_by es holds w level a own in
    agreed_changed es (after_demote level es) holds w level (Some (Writing w)) (Some (Ready 1)) (Some (Writes level)) (Some (Reads level)) a small (level_held es holds level (Writing w) a was) was
    (held_at-with_held level (Writing w) (Ready 1) es was) own (KeepsOthers-with_held level (Ready 1) es) refl refl
    (omega (arith, reads_own level))
    (λ v n. (λ e. absurd (ready_not 1 v e), λ e. absurd (n (writer_is v w e))))
    (λ e. absurd (reads_not level level e), λ e. absurd (ready_not 1 w e))

pub agreed_abandoned : (es : List Entry) (holds : List (Option Hold)) (w level : ℕ) → Agreed es holds → w < 16 → hold_in holds w ≡ Some (Writes level)
    → Agreed (after_abandon level es) (slice_set holds w None)
agreed_abandoned es holds w level a small own =
    let was = written_by es holds w level a own in
    agreed_changed es (after_abandon level es) holds w level (Some (Writing w)) None (Some (Writes level)) None a small (level_held es holds level (Writing w) a was) was
    (held_at-without_same level es) own (KeepsOthers-without level es) refl tt
    refl
    (λ v n. (λ e. absurd (none_not v e), λ e. absurd (n (writer_is v w e))))
    (λ e. absurd (nothing_not level e), λ e. absurd (none_not w e))

pub agreed_left : (es : List Entry) (holds : List (Option Hold)) (w level : ℕ) → Agreed es holds → w < 16 → hold_in holds w ≡ Some (Reads level)
    → Agreed (after_leave level es) (slice_set holds w None)
agreed_left es holds w level a small own =
    let some = some_reader es holds w level a small own in
    let n = readers_at level es in
    let was : held_at level es ≡ Some (Ready n) = read_is_ready (held_at level es) some in
    agreed_changed es (after_leave level es) holds w level (Some (Ready n)) (Some (Ready (n - 1))) (Some (Reads level)) None a small (level_held es holds level (Ready n) a was) was
    (held_at-with_held level (Ready n) (Ready (n - 1)) es was) own (KeepsOthers-with_held level (Ready (n - 1)) es) refl tt
    (omega (arith, reads_own level, some))
    (λ v _. (λ e. absurd (ready_not (n - 1) v e), λ e. absurd (ready_not n v e)))
    (λ e. absurd (nothing_not level e), λ e. absurd (ready_not (n - 1) w e))

-- a level goes that nobody reads, and no hold changes
pub agreed_evicted : (old new : List Entry) (holds : List (Option Hold)) (level : ℕ) → Agreed old holds → held_at level old ≡ Some (Ready 0) → held_at level new ≡ None → KeepsOthers level old new
    → Agreed new holds
agreed_evicted old new holds level a was is keeps = record {
  count = a.count;
  each = λ other. ⊎_elim
      (λ (same : (eqb other level ≡ true) × (other ≡ level)). subst (λ l. AgreesAt holds l (held_at l new)) (sym same.1) here)
      (λ (n : (eqb other level ≡ false) × (other ≢ level)). subst (AgreesAt holds other) (sym (keeps other n.1)) (a.each other))
      (eqb_tells other level);
}
  where
    at : AgreesAt holds level (Some (Ready 0))
    at = subst (AgreesAt holds level) was (a.each level)

    gone : AgreesAt holds level None
    gone = record {
      readers = at.readers;
      writes = λ w own. absurd (ready_not 0 w (at.writes w own));
      written = λ w e. absurd (none_not w e);
      range = λ h e. absurd (no_held h e);
    }
      where
        no_held : (h : Held) → ◌≡◌ {A = Option Held} None (Some h) → ⊥
        no_held h e = cc

    here : AgreesAt holds level (held_at level new)
    here = subst (AgreesAt holds level) (sym is) gone

no_readers : (level : ℕ) → sum_by (reads level) no_holds ≡ 0
unfolding no_holds
no_readers level = refl

-- no level has a slot, and nobody holds one
pub agreed_none : Agreed [] no_holds
agreed_none = record {
  count = length-no_holds;
  each = λ level. record {
    readers = sym (no_readers level);
    writes = λ w own. absurd (nobody w level own);
    written = λ w e. absurd (none_not w e);
    range = λ h e. absurd (no_held h e);
  };
}
  where
    no_held : (h : Held) → ◌≡◌ {A = Option Held} None (Some h) → ⊥
    no_held h e = cc

    nobody : (w level : ℕ) → hold_in no_holds w ≡ Some (Writes level) → ⊥
    nobody w level own = nothing_not level (sym (none_holds w) ∙ own)
