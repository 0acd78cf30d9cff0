-- The agreement of holds and entries behind each change of one worker's hold and of one level.
use Rattle.std.proofs.Common.{◌≡◌, ◌≢◌, ℕ, ◌+◌, ◌-◌, ◌<◌, ◌≤◌, ◌↔◌, true, false, cond, List, [], ◌∷◌, ◌++◌, length, refl, sym, ap, subst, ◌∙◌, arith, eqb, ⊎_elim, Option, Some, None, zero, suc}
use Rattle.std.specs.Prelude.{slice_set, ◌==◌}
use Rattle.std.proofs.lemmas.Bool.Decides.{eqb_tells, nat_tests}
use Rattle.std.proofs.lemmas.List.{length-set, get_or-set_same, get_or-set_other}
use Rattle.std.proofs.Math.Seq.{get_or-append_seam, set-append_seam}
use Rattle.std.proofs.lemmas.List.Sums.{sum_by-set, sum_by_push, get_or-le-sum_by}
use Rattle.mip_cache.specs.declared.entry.Held.{Held}
use Rattle.mip_cache.specs.declared.entry.Held.TheVariants.{Writing, Ready}
use Rattle.mip_cache.specs.declared.entry.Entry.{Entry}
use Rattle.mip_cache.specs.Mipmaps.{held_at, readers_of, KeepsOthers}
use Rattle.mip_cache.specs.Slots.{IsLevel}
use Rattle.level_store.specs.declared.hold.Hold.{Hold}
use Rattle.level_store.specs.declared.hold.Hold.TheVariants.{Writes, Reads}
use Rattle.level_store.specs.Levels.{hold_in}
use Rattle.level_store.specs.Agreement.{is_reader_of, is_ready, AgreesAt, Agree}

-- 1 where a worker that holds this reads the level
abbrev pub reads : ℕ → Option Hold → ℕ
reads level h = cond (is_reader_of level h) 1 0

-- the worker's hold changes, and so does how the level is held
pub agrees_set : (holds : List (Option Hold)) (level w : ℕ) (before now : Option Held) (h : Option Hold) → AgreesAt holds level before → w < length holds
    → readers_of now + reads level (hold_in holds w) ≡ readers_of before + reads level h
    → ((v : ℕ) → v ≢ w → (now ≡ Some (Writing v)) ↔ (before ≡ Some (Writing v)))
    → ((h ≡ Some (Writes level)) ↔ (now ≡ Some (Writing w)))
    → ((x : Held) → now ≡ Some x → IsLevel level)
    → AgreesAt (slice_set holds w h) level now
agrees_set holds level w before now h at within count others own range = record {
  readers = omega (arith, sum_by-set (reads level) holds w h None within, at.readers, count);
  writes = λ v is. ⊎_elim
      (λ (here : (eqb v w ≡ true) × (v ≡ w)).
      let mine : hold_in (slice_set holds w h) w ≡ Some (Writes level) = subst (λ i. hold_in (slice_set holds w h) i ≡ Some (Writes level)) here.1 is in
      subst (λ i. now ≡ Some (Writing i)) (sym here.1) (own.0 (sym (get_or-set_same holds w h None within) ∙ mine)))
      (λ (other : (eqb v w ≡ false) × (v ≢ w)). (others v other.1).1 (at.writes v (sym (get_or-set_other holds w v h None other.1) ∙ is)))
      (eqb_tells v w);
  written = λ v is. ⊎_elim
      (λ (here : (eqb v w ≡ true) × (v ≡ w)).
      subst (λ i. hold_in (slice_set holds w h) i ≡ Some (Writes level)) (sym here.1)
      (get_or-set_same holds w h None within ∙ own.1 (subst (λ i. now ≡ Some (Writing i)) here.1 is)))
      (λ (other : (eqb v w ≡ false) × (v ≢ w)). get_or-set_other holds w v h None other.1 ∙ at.written v ((others v other.1).0 is))
      (eqb_tells v w);
  range = range;
}

-- the hold is of no other level
abbrev pub IsAbout : ℕ → Option Hold → Type 0
IsAbout level None = Unit {0}
IsAbout level (Some (Writes l)) = l ≡ level
IsAbout level (Some (Reads l)) = l ≡ level

reads_no_other : (level other : ℕ) (h : Option Hold) → IsAbout level h → other ≢ level → reads other h ≡ 0
reads_no_other level other None about n = refl
reads_no_other level other (Some (Writes l)) about n = refl
reads_no_other level other (Some (Reads l)) about n =
    let no : (l == other) ≡ false = grind (arith, nat_tests) in
    rw no refl

writes_no_other : (level other : ℕ) (h : Option Hold) → IsAbout level h → other ≢ level → h ≡ Some (Writes other) → ⊥
writes_no_other level other None about n e = cc
writes_no_other level other (Some (Writes l)) about n e =
    let same : l ≡ other = cc in
    n (sym same ∙ about)
writes_no_other level other (Some (Reads l)) about n e = cc

-- one worker's hold changes, and one level with it
pub agree_changed : (old new : List Entry) (holds : List (Option Hold)) (w level : ℕ) (h : Option Hold) → Agree old holds → w < length holds
    → KeepsOthers level old new → IsAbout level (hold_in holds w) → IsAbout level h
    → AgreesAt (slice_set holds w h) level (held_at level new) → Agree new (slice_set holds w h)
agree_changed old new holds w level h a within keeps was is here = record {
  few = omega (arith, a.few, length-set holds w h);
  each = λ other. ⊎_elim
      (λ (same : (eqb other level ≡ true) × (other ≡ level)). subst (λ l. AgreesAt (slice_set holds w h) l (held_at l new)) (sym same.1) here)
      (λ (n : (eqb other level ≡ false) × (other ≢ level)).
      subst (AgreesAt (slice_set holds w h) other) (sym (keeps other n.1)) (beside other n.1))
      (eqb_tells other level);
}
  where
    beside : (other : ℕ) → other ≢ level → AgreesAt (slice_set holds w h) other (held_at other old)
    beside other n =
        let at = a.each other in
        agrees_set holds other w (held_at other old) (held_at other old) h at within
        (omega (arith, reads_no_other level other (hold_in holds w) was n, reads_no_other level other h is n))
        (λ v _. (λ e. e, λ e. e))
        (λ e. absurd (writes_no_other level other h is n e), λ e. absurd (writes_no_other level other (hold_in holds w) was n (at.written w e)))
        at.range

-- a worker that holds something is within the workers
pub hold_within : (holds : List (Option Hold)) (w : ℕ) (h : Hold) → hold_in holds w ≡ Some h → w < length holds
hold_within [] w h is = absurd cc
hold_within (x ∷ xs) zero h is = omega arith
hold_within (x ∷ xs) (suc w) h is = let l : w < length xs = hold_within xs w h is in omega arith

reads_own : (level : ℕ) (h : Option Hold) → h ≡ Some (Reads level) → reads level h ≡ 1
reads_own level h is =
    let yes : (level == level) ≡ true = grind (arith, nat_tests) in
    ap (reads level) is ∙ rw yes refl

reads_nothing : (level : ℕ) (h : Option Hold) → h ≡ Some (Writes level) → reads level h ≡ 0
reads_nothing level h is = ap (reads level) is

reads_none : (level : ℕ) (h : Option Hold) → h ≡ None → reads level h ≡ 0
reads_none level h is = ap (reads level) is

-- who reads a level is one of its readers
pub some_reader : (es : List Entry) (holds : List (Option Hold)) (w level : ℕ) → Agree es holds → hold_in holds w ≡ Some (Reads level) → 1 ≤ readers_of (held_at level es)
some_reader es holds w level a is =
    omega (arith, get_or-le-sum_by (reads level) holds w None (hold_within holds w (Reads level) is), reads_own level (hold_in holds w) is, (a.each level).readers)

-- a level with readers is written
pub read_is_ready : (held : Option Held) → 1 ≤ readers_of held → held ≡ Some (Ready (readers_of held))
read_is_ready None h = absurd (omega (arith, h))
read_is_ready (Some (Writing w)) h = absurd (omega (arith, h))
read_is_ready (Some (Ready n)) h = refl

-- ---- the calls, by how the level is held before and after

-- the worker that wrote a level holds something else of it, and the level is held in another way
pub agree_wrote : (old new : List Entry) (holds : List (Option Hold)) (w level : ℕ) (now : Option Held) (h : Option Hold) → Agree old holds → hold_in holds w ≡ Some (Writes level)
    → held_at level new ≡ now → KeepsOthers level old new → IsAbout level h → readers_of now ≡ reads level h
    → ((v : ℕ) → now ≡ Some (Writing v) → ⊥) → (h ≡ Some (Writes level) → ⊥)
    → Agree new (slice_set holds w h)
agree_wrote old new holds w level now h a own is keeps about count no_writer no_write =
    let at = a.each level in
    let within = hold_within holds w (Writes level) own in
    let was = at.writes w own in
    agree_changed old new holds w level h a within keeps (subst (IsAbout level) (sym own) refl) about
    (subst (AgreesAt (slice_set holds w h) level) (sym is)
    (agrees_set holds level w (held_at level old) now h at within
    (omega (arith, ap readers_of was, reads_nothing level (hold_in holds w) own, count))
    (λ v n. (λ e. absurd (no_writer v e), λ e. absurd (n (writer_is v (sym was ∙ e)))))
    (λ e. absurd (no_write e), λ e. absurd (no_writer w e))
    (λ x _. at.range (Writing w) was)))
  where
    writer_is : (v : ℕ) → ◌≡◌ {A = Option Held} (Some (Writing w)) (Some (Writing v)) → v ≡ w
    writer_is v e = cc

pub agree_demoted : (old new : List Entry) (holds : List (Option Hold)) (w level : ℕ) → Agree old holds → hold_in holds w ≡ Some (Writes level)
    → held_at level new ≡ Some (Ready 1) → KeepsOthers level old new → Agree new (slice_set holds w (Some (Reads level)))
agree_demoted old new holds w level a own is keeps =
    agree_wrote old new holds w level (Some (Ready 1)) (Some (Reads level)) a own is keeps refl (sym (reads_own level (Some (Reads level)) refl)) (λ v e. cc) (λ e. cc)

pub agree_abandoned : (old new : List Entry) (holds : List (Option Hold)) (w level : ℕ) → Agree old holds → hold_in holds w ≡ Some (Writes level)
    → held_at level new ≡ None → KeepsOthers level old new → Agree new (slice_set holds w None)
agree_abandoned old new holds w level a own is keeps =
    agree_wrote old new holds w level None None a own is keeps tt refl (λ v e. cc) (λ e. cc)

pub agree_left : (old new : List Entry) (holds : List (Option Hold)) (w level : ℕ) → Agree old holds → hold_in holds w ≡ Some (Reads level)
    → held_at level new ≡ Some (Ready (readers_of (held_at level old) - 1)) → KeepsOthers level old new → Agree new (slice_set holds w None)
agree_left old new holds w level a own is keeps =
    let at = a.each level in
    let some = some_reader old holds w level a own in
    let was = read_is_ready (held_at level old) some in
    agree_changed old new holds w level None a (hold_within holds w (Reads level) own) keeps (subst (IsAbout level) (sym own) refl) tt
    (agrees_set holds level w (held_at level old) (held_at level new) None at (hold_within holds w (Reads level) own)
    (omega (arith, some, ap readers_of is, reads_own level (hold_in holds w) own))
    (λ v _. (λ e. absurd (cc (is, e)), λ e. absurd (cc (was, e))))
    (λ e. absurd (cc (e)), λ e. absurd (cc (is, e)))
    (λ x _. at.range (Ready (readers_of (held_at level old))) was))

-- ---- a last worker that holds nothing goes

hold_in-push : (holds : List (Option Hold)) (w : ℕ) → hold_in (holds ++ None ∷ []) w ≡ hold_in holds w
hold_in-push [] zero = refl
hold_in-push [] (suc w) = refl
hold_in-push (x ∷ xs) zero = refl
hold_in-push (x ∷ xs) (suc w) = hold_in-push xs w

pub agree_front : (es : List Entry) (holds : List (Option Hold)) → Agree es (holds ++ None ∷ []) → Agree es holds
agree_front es holds a = record {
  few = omega (arith, a.few, shorter holds);
  each = λ level.
      let at = a.each level in
      record {
        readers = at.readers ∙ omega (arith, sum_by_push (reads level) holds None);
        writes = λ w e. at.writes w (hold_in-push holds w ∙ e);
        written = λ w e. sym (hold_in-push holds w) ∙ at.written w e;
        range = at.range;
      };
}
  where
    shorter : (xs : List (Option Hold)) → length xs ≤ length (xs ++ None ∷ [])
    shorter [] = omega arith
    shorter (x ∷ xs) = omega (arith, shorter xs)

-- ---- what the calls need of a worker's hold

-- a level that a worker writes is one of the eight
pub write_range : (es : List Entry) (holds : List (Option Hold)) (w level : ℕ) → Agree es holds → hold_in holds w ≡ Some (Writes level) → IsLevel level
write_range es holds w level a own = (a.each level).range (Writing w) ((a.each level).writes w own)

-- and so is one that it reads, which is written
pub read_range : (es : List Entry) (holds : List (Option Hold)) (w level : ℕ) → Agree es holds → hold_in holds w ≡ Some (Reads level) → IsLevel level × (is_ready (held_at level es) ≡ true)
read_range es holds w level a own =
    let was = read_is_ready (held_at level es) (some_reader es holds w level a own) in
    ((a.each level).range (Ready (readers_of (held_at level es))) was, ap is_ready was)

-- ---- the last worker gives its hold up

-- what the last worker holds
pub last_hold : (holds front : List (Option Hold)) (h : Option Hold) → holds ≡ front ++ h ∷ [] → hold_in holds (length front) ≡ h
last_hold holds front h is = ap (λ hs. hold_in hs (length front)) is ∙ get_or-append_seam front h [] None

-- and it goes once it holds nothing
pub agree_popped : (es : List Entry) (holds front : List (Option Hold)) (h : Option Hold) → holds ≡ front ++ h ∷ [] → Agree es (slice_set holds (length front) None) → Agree es front
agree_popped es holds front h is a =
    agree_front es front (subst (Agree es) (ap (λ hs. slice_set hs (length front) None) is ∙ set-append_seam front h [] None) a)
