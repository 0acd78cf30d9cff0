-- The greatest index whose prefix has an entry that covers its region, and the entry that it stands for.
use Rattle.std.proofs.Common.{◌≡◌, ℕ, zero, suc, ◌+◌, ◌<◌, ◌≤◌, Bool, true, false, cond, ◌&&◌, nat_le, List, [], ◌∷◌, length, drop, slice_get, slice_index_or, ◌-◌, Option, Some, None, option_map, IfSome, refl, arith, sym, ap, ◌∙◌, subst}
use Rattle.std.specs.Option.{option_map_or}
use Rattle.std.specs.Map.{lookup, lookup_entry}
use Rattle.std.specs.List.{IsDistinct}
use Rattle.std.proofs.lemmas.List.{length-map}
use Rattle.std.proofs.lemmas.List.Elements.{All-nil, All-cons}
use Rattle.std.proofs.lemmas.Bool.{false≢true, leb-true, le-leb}
use Rattle.lru.specs.LruCache.{LruCache, promoted, IsValid}
use Rattle.px.specs.Area.{Area, Covers}
use Rattle.px.specs.Cut.{Cut}
use Rattle.pipe_nodes.specs.Prefix.{PrefixSeen}
use Rattle.pipe_nodes.specs.SamePrefix.{same_prefix}
use Rattle.pipe_nodes.specs.Staged.{StagedSeen}
use Rattle.pipe_nodes.proofs.SameLemmas.{prefix-Decides}
use Rattle.stage_cache.specs.Stages.{Stage, does_cover, has_cover, later_or_here, found_index, stages_after_use, stages_after_find, total_pixels, IsCovered, NoneCovered, IsLastCovered}
use Rattle.stage_cache.specs.StageCache.{stage_cache, stage_of_staged, stages_of, AreOf, IsStageCache, IsFound}
use Rattle.stage_cache.proofs.EntryLemmas.{Entry, area_of, keys-stages, lookup-stages, lookup-entry, promoted-stages, promoted_by, AreOf-promoted, total-promoted}

-- both halves of a test that passes
both : (a b : Bool) → (a && b) ≡ true → (a ≡ true) × (b ≡ true)
both true b h = (refl, h)
both false b h = absurd (false≢true h)

-- what passes the test lies in the outer rectangle
pub does_cover-true : (a b : Area) → does_cover a b ≡ true → Covers a b
does_cover-true a b h =
    let x = both (nat_le a.x b.x) (nat_le (b.x + b.w) (a.x + a.w) && (nat_le a.y b.y && nat_le (b.y + b.h) (a.y + a.h))) h in
    let y = both (nat_le (b.x + b.w) (a.x + a.w)) (nat_le a.y b.y && nat_le (b.y + b.h) (a.y + a.h)) x.1 in
    let z = both (nat_le a.y b.y) (nat_le (b.y + b.h) (a.y + a.h)) y.1 in
    record { left = leb-true a.x b.x x.0; right = leb-true (b.x + b.w) (a.x + a.w) y.0; top = leb-true a.y b.y z.0; bottom = leb-true (b.y + b.h) (a.y + a.h) z.1 }

-- what lies in the outer rectangle passes
Covers-passes : (a b : Area) → Covers a b → does_cover a b ≡ true
Covers-passes a b h = rw (le-leb a.x b.x h.left, le-leb (b.x + b.w) (a.x + a.w) h.right, le-leb a.y b.y h.top, le-leb (b.y + b.h) (a.y + a.h) h.bottom) refl

same_tests : (a b : Bool) → (a ≡ true → b ≡ true) → (b ≡ true → a ≡ true) → a ≡ b
same_tests true b f g = sym (f refl)
same_tests false true f g = g refl
same_tests false false f g = refl

-- a test of the same fact answers the same
pub same-does_cover : (t : Bool) (a b : Area) → (t ≡ true → Covers a b) → (Covers a b → t ≡ true) → t ≡ does_cover a b
same-does_cover t a b f g = same_tests t (does_cover a b) (λ h. Covers-passes a b (f h)) (λ h. g (does_cover-true a b h))

-- the asked prefix has an entry
pub has_cover_some : (es : List Entry) (asked : Stage) (s : StagedSeen) → lookup (same_prefix asked.0) es ≡ Some s → has_cover (stages_of es) asked ≡ does_cover s.plane.area asked.1
has_cover_some es asked s h = ap (λ o. option_map_or (λ r. does_cover r asked.1) o false) (lookup-stages (same_prefix asked.0) es ∙ ap (option_map area_of) h)

-- and where it has none
pub has_cover_none : (es : List Entry) (asked : Stage) → lookup (same_prefix asked.0) es ≡ None → has_cover (stages_of es) asked ≡ false
has_cover_none es asked h = ap (λ o. option_map_or (λ r. does_cover r asked.1) o false) (lookup-stages (same_prefix asked.0) es ∙ ap (option_map area_of) h)

-- the element at a place of the list
pub slice_get-index : {X : Type 0} (xs : List X) (i : ℕ) (d : X) → i < length xs → slice_get xs i ≡ Some (slice_index_or xs i d)
slice_get-index [] i d h = absurd (omega arith)
slice_get-index (x ∷ xs) zero d h = refl
slice_get-index (x ∷ xs) (suc i) d h = slice_get-index xs i d (omega arith)

module _ (stages : List Stage) where
  covered_by : (asked : Stage) (o : Option Area) → lookup (same_prefix asked.0) stages ≡ o → option_map_or (λ r. does_cover r asked.1) o false ≡ true → IsCovered stages asked
  covered_by asked None f h = absurd (false≢true h)
  covered_by asked (Some r) f h = (r, f, does_cover-true r asked.1 h)

  -- what passes the test is covered
  has_cover-true : (asked : Stage) → has_cover stages asked ≡ true → IsCovered stages asked
  has_cover-true asked h = covered_by asked (lookup (same_prefix asked.0) stages) refl h

  -- what doesn't pass isn't
  has_cover-false : (asked : Stage) → has_cover stages asked ≡ false → IsCovered stages asked → ⊥
  has_cover-false asked h c =
      let yes : has_cover stages asked ≡ true = ap (λ o. option_map_or (λ r. does_cover r asked.1) o false) c.1 ∙ Covers-passes c.0 asked.1 c.2 in
      false≢true (sym h ∙ yes)

  none_by : (a : Stage) (list : List Stage) (o : Option ℕ) → found_index stages list ≡ o → (found_index stages list ≡ None → NoneCovered stages list) → (b : Bool) → has_cover stages a ≡ b → later_or_here b o ≡ None → NoneCovered stages (a ∷ list)
  none_by a list (Some j) f rest b t h = cc
  none_by a list None f rest true t h = cc
  none_by a list None f rest false t h = All-cons (λ s. IsCovered stages s → ⊥) a list (has_cover-false a t) (rest f)

  -- nothing is found: nothing in the list is covered
  pub found_index-none : (list : List Stage) → found_index stages list ≡ None → NoneCovered stages list
  found_index-none [] h = All-nil (λ s. IsCovered stages s → ⊥)
  found_index-none (a ∷ list) h = none_by a list (found_index stages list) refl (λ f. found_index-none list f) (has_cover stages a) refl h

  last_by : (a : Stage) (list : List Stage) (i : ℕ) (o : Option ℕ) → found_index stages list ≡ o → ((j : ℕ) → found_index stages list ≡ Some j → IsLastCovered stages list j) → (b : Bool) → has_cover stages a ≡ b → later_or_here b o ≡ Some i → IsLastCovered stages (a ∷ list) i
  last_by a list zero (Some j) f rest b t h = cc
  last_by a list (suc i) (Some j) f rest b t h =
      let e : j ≡ i = cc in
      let known = rest i (f ∙ ap Some e) in
      record { covered = known.covered; none_later = known.none_later }
  last_by a list zero None f rest true t h = record { covered = (a, refl, has_cover-true a t); none_later = found_index-none list f }
  last_by a list (suc i) None f rest true t h = cc
  last_by a list i None f rest false t h = cc

  -- what is found is covered, and nothing behind it is
  pub found_index-some : (list : List Stage) (i : ℕ) → found_index stages list ≡ Some i → IsLastCovered stages list i
  found_index-some [] i h = cc
  found_index-some (a ∷ list) i h = last_by a list i (found_index stages list) refl (λ j f. found_index-some list j f) (has_cover stages a) refl h

  here : (list : List Stage) (i : ℕ) (d : Stage) → i < length list → found_index stages (drop (suc i) list) ≡ None → has_cover stages (slice_index_or list i d) ≡ true → found_index stages list ≡ Some i
  here [] i d b h c = absurd (omega arith)
  here (a ∷ list) zero d b h c = ap (λ o. later_or_here (has_cover stages a) o) h ∙ ap (λ t. cond t (Some 0) None) c
  here (a ∷ list) (suc i) d b h c = ap (later_or_here (has_cover stages a)) (here list i d (omega arith) h c)

  -- one step of the walk from the end: the prefix before the first j is the last one covered
  pub found_index-here : (list : List Stage) (j : ℕ) (d : Stage) → 0 < j → j ≤ length list → found_index stages (drop j list) ≡ None → has_cover stages (slice_index_or list (j - 1) d) ≡ true → found_index stages list ≡ Some (j - 1)
  found_index-here list j d p b h c =
      let e : j ≡ suc (j - 1) = omega arith in
      here list (j - 1) d (omega arith) (ap (λ n. found_index stages (drop n list)) (sym e) ∙ h) c

looked_up : (source : Cut) (p : PrefixSeen) (es : List Entry) (s : StagedSeen) → AreOf source es → lookup (same_prefix p) es ≡ Some s → (s.prefix ≡ p) × (s.source ≡ source)
looked_up source p [] s a h = cc
looked_up source p (e ∷ es) s a h = (elim (same_prefix p e.0) as (λ b. same_prefix p e.0 ≡ b → cond b (Some e.1) (lookup (same_prefix p) es) ≡ Some s → (s.prefix ≡ p) × (s.source ≡ source)) [
  | true ↦ λ t g. let same : e.1 ≡ s = cc in subst (λ (x : StagedSeen). (x.prefix ≡ p) × (x.source ≡ source)) same (a.0.0 ∙ sym ((prefix-Decides p e.0).0 t), a.0.1)
  | false ↦ λ t g. looked_up source p es s a.1 g
]) refl h

-- the entry of a prefix of the list that covers its region
pub covered-found : (source : Cut) (es : List Entry) (list : List Stage) (i : ℕ) (asked : Stage) (s : StagedSeen) → AreOf source es → slice_get list i ≡ Some asked → lookup (same_prefix asked.0) es ≡ Some s → has_cover (stages_of es) asked ≡ true → IsFound source (stages_of es) list i s
covered-found source es list i asked s a g h c =
    let of = looked_up source asked.0 es s a h in
    let entry : lookup (same_prefix asked.0) (stages_of es) ≡ Some s.plane.area = lookup-stages (same_prefix asked.0) es ∙ ap (option_map area_of) h in
    record {
      source = of.1;
      entry = subst (λ p. lookup (same_prefix p) (stages_of es) ≡ Some s.plane.area) (sym of.0) entry;
      asked = (asked.1, g ∙ ap (λ p. Some (p, asked.1)) (sym of.0), does_cover-true s.plane.area asked.1 (sym (has_cover_some es asked s h) ∙ c));
    }

-- the entry that is found goes to the front
pub after-promoted : (es : List Entry) (list : List Stage) (i : ℕ) (p : PrefixSeen) (r : Area) → found_index (stages_of es) list ≡ Some i → slice_get list i ≡ Some (p, r) → stages_of (promoted (same_prefix p) es) ≡ stages_after_find list (stages_of es)
after-promoted es list i p r f g =
    sym (promoted-stages (same_prefix p) es) ∙ (ap (stages_after_use (stages_of es)) (sym g) ∙ ap (λ o. option_map_or (λ k. stages_after_use (stages_of es) (slice_get list k)) o (stages_of es)) (sym f))

first_by : (test : PrefixSeen → Bool) (p : PrefixSeen) (r : Area) (ss : List Stage) (o : Option Stage) → ((s : Stage) → o ≡ Some s → s.0 ≡ p) → option_map (λ (s : Stage). s.1) o ≡ Some r → slice_get (promoted_by test ss o) 0 ≡ Some (p, r)
first_by test p r ss None same h = cc
first_by test p r ss (Some s) same h =
    let prefix : s.0 ≡ p = same s refl in
    let region : s.1 ≡ r = cc in
    λ i. Some (prefix i, region i)

entry_prefix : (p : PrefixSeen) (ss : List Stage) (s : Stage) → lookup_entry (same_prefix p) ss ≡ Some s → s.0 ≡ p
entry_prefix p [] s h = cc
entry_prefix p (e ∷ ss) s h = (elim (same_prefix p e.0) as (λ b. same_prefix p e.0 ≡ b → cond b (Some e) (lookup_entry (same_prefix p) ss) ≡ Some s → s.0 ≡ p) [
  | true ↦ λ t g. let same : e ≡ s = cc in subst (λ (x : Stage). x.0 ≡ p) same (sym ((prefix-Decides p e.0).0 t))
  | false ↦ λ t g. entry_prefix p ss s g
]) refl h

-- then it stands first
pub first-promoted : (p : PrefixSeen) (r : Area) (ss : List Stage) → lookup (same_prefix p) ss ≡ Some r → slice_get (promoted (same_prefix p) ss) 0 ≡ Some (p, r)
first-promoted p r ss h = first_by (same_prefix p) p r ss (lookup_entry (same_prefix p) ss) (entry_prefix p ss) (sym (lookup-entry (same_prefix p) ss) ∙ h)

-- what the type keeps holds after an entry went to the front
pub kept-promoted : (test : PrefixSeen → Bool) (source : Cut) (es : List Entry) (used budget : ℕ) → AreOf source es × (used ≡ total_pixels (stages_of es)) × (used ≤ budget) → AreOf source (promoted test es) × (used ≡ total_pixels (stages_of (promoted test es))) × (used ≤ budget)
kept-promoted test source es used budget h = (AreOf-promoted test source es h.0, h.1 ∙ (sym (total-promoted test (stages_of es)) ∙ ap total_pixels (promoted-stages test es)), h.2)

-- caches of the same parts
pub same_caches : (source : Cut) (l m b : ℕ) (s t : List Stage) → l ≡ m → s ≡ t → stage_cache source l b s ≡ stage_cache source m b t
same_caches source l m b s t e f = λ i. stage_cache source (e i) b (f i)

-- what the type and the entries keep is what holds of every stage cache
pub cache_is : (c : LruCache PrefixSeen StagedSeen) (source : Cut) (used budget : ℕ) → IsValid same_prefix c → used ≡ total_pixels (stages_of c.entries) → used ≤ budget → IsStageCache (stage_cache source c.cap budget (stages_of c.entries))
cache_is c source used budget v u b = record {
  distinct = subst (IsDistinct same_prefix) (keys-stages c.entries) v.0;
  limit = subst (λ n. n ≤ c.cap) (sym (length-map c.entries (λ (e : Entry). (e.0, e.1.plane.area)))) v.1;
  budget = subst (λ n. n ≤ budget) u b;
}

-- what a test of covering answers of the asked prefix's stage
pub has_cover_told : (es : List Entry) (asked : Stage) (s : StagedSeen) (a : Area) (t : Bool) → lookup (same_prefix asked.0) es ≡ Some s → a ≡ s.plane.area → ((t ≡ true → Covers a asked.1) × (Covers a asked.1 → t ≡ true)) → t ≡ has_cover (stages_of es) asked
has_cover_told es asked s a t h e told = same-does_cover t a asked.1 told.0 told.1 ∙ (ap (λ r. does_cover r asked.1) e ∙ sym (has_cover_some es asked s h))

-- what the walk tells, where it found an entry
abbrev pub IsTold : List Entry → List Stage → ℕ × StagedSeen → Type 0
IsTold es list f = (source : Cut) → AreOf source es → IsFound source (stages_of es) list f.0 f.1

pub told_index : (stages list : List Stage) (r o : Option (ℕ × StagedSeen)) → option_map (λ f. f.0) r ≡ found_index stages list → r ≡ o → found_index stages list ≡ option_map (λ f. f.0) o
told_index stages list r o h e = sym h ∙ ap (option_map (λ (f : ℕ × StagedSeen). f.0)) e

pub told_entry : (es : List Entry) (list : List Stage) (r : Option (ℕ × StagedSeen)) (i : ℕ) (s : StagedSeen) (source : Cut) → IfSome r (IsTold es list) → r ≡ Some (i, s) → AreOf source es → IsFound source (stages_of es) list i s
told_entry es list r i s source h e a = (subst (λ o. IfSome o (IsTold es list)) e h) source a

-- the stage that is found is the first entry, once its own prefix went to the front
pub first-told : (es : List Entry) (p : PrefixSeen) (s : StagedSeen) → p ≡ s.prefix → lookup (same_prefix s.prefix) (stages_of es) ≡ Some s.plane.area → slice_get (stages_of (promoted (same_prefix p) es)) 0 ≡ Some (stage_of_staged s)
first-told es p s e h = subst (λ k. slice_get (stages_of (promoted (same_prefix k) es)) 0 ≡ Some (stage_of_staged s)) (sym e) (ap (λ l. slice_get l 0) (sym (promoted-stages (same_prefix s.prefix) es)) ∙ first-promoted s.prefix s.plane.area (stages_of es) h)

-- and the list is the one after a find
pub after-told : (es : List Entry) (list : List Stage) (i : ℕ) (p : PrefixSeen) (s : StagedSeen) (source : Cut) → found_index (stages_of es) list ≡ Some i → IsFound source (stages_of es) list i s → p ≡ s.prefix → stages_of (promoted (same_prefix p) es) ≡ stages_after_find list (stages_of es)
after-told es list i p s source f found e = after-promoted es list i p found.asked.0 f (found.asked.1 ∙ ap (λ k. Some (k, found.asked.0)) (sym e))
