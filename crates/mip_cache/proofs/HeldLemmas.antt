-- How levels are held in the lists that the calls leave.
use Rattle.std.proofs.Common.{◌≡◌, ◌≢◌, ℕ, ◌≤◌, true, false, not, cond, Option, ◌⊎◌, inl, inr, List, [], ◌∷◌, length, refl, sym, ap, ◌∙◌, arith, Some, None}
use Rattle.std.specs.List.{filter, last_or}
use Rattle.std.proofs.lemmas.Bool.{false≢true}
use Rattle.std.proofs.lemmas.Bool.Decides.{nat_tests}
use Rattle.mip_cache.specs.declared.entry.Held.{Held}
use Rattle.mip_cache.specs.declared.entry.Held.TheVariants.{Writing, Ready}
use Rattle.mip_cache.specs.declared.entry.Entry.{Entry}
use Rattle.mip_cache.specs.Mipmaps.{entry, is_of, held_at, without, with_held, is_unread, is_free, evict_answer, KeepsOthers}
use Rattle.mip_cache.specs.Slots.{FitSlots}
use Rattle.mip_cache.proofs.EntryLemmas.{times, level_of}

-- the level taken out has no slot
pub held_at-without_same : (level : ℕ) (es : List Entry) → held_at level (without level es) ≡ None
held_at-without_same level [] = refl
held_at-without_same level (e ∷ es) =
    elim (is_of level e) as (λ b. is_of level e ≡ b → held_at level (cond (not b) (e ∷ without level es) (without level es)) ≡ None)
    [ true ↦ λ h. held_at-without_same level es | false ↦ λ h. rw h (held_at-without_same level es) ] refl

-- an entry of one level is of no other
is_of-other : (level other : ℕ) (e : Entry) → other ≢ level → is_of level e ≡ true → is_of other e ≡ false
is_of-other level other e n h = grind (arith, nat_tests)

pub KeepsOthers-without : (level : ℕ) (es : List Entry) → KeepsOthers level es (without level es)
KeepsOthers-without level [] other n = refl
KeepsOthers-without level (e ∷ es) other n =
    let rest = KeepsOthers-without level es other n in
    elim (is_of level e) as (λ b. is_of level e ≡ b → held_at other (cond (not b) (e ∷ without level es) (without level es)) ≡ cond (is_of other e) (Some e.held) (held_at other es)) [
      | true ↦ λ h. rw (is_of-other level other e n h) rest
      | false ↦ λ h. ap (λ (r : Option Held). cond (is_of other e) (Some e.held) r) rest
    ] refl

-- an entry in front
pub held_at-first : (level : ℕ) (held : Held) (es : List Entry) → held_at level (entry level held ∷ es) ≡ Some held
held_at-first level held es =
    let own : is_of level (entry level held) ≡ true = grind (arith, nat_tests) in
    rw own refl

pub KeepsOthers-first : (level : ℕ) (held : Held) (old new : List Entry) → KeepsOthers level old new → KeepsOthers level old (entry level held ∷ new)
KeepsOthers-first level held old new keeps other n =
    let own : is_of other (entry level held) ≡ false = grind (arith, nat_tests) in
    rw own (keeps other n)

-- a level that is held in another way
pub held_at-with_held : (level : ℕ) (before now : Held) (es : List Entry) → held_at level es ≡ Some before → held_at level (with_held level now es) ≡ Some now
held_at-with_held level before now [] h = cc
held_at-with_held level before now (e ∷ es) h =
    elim (is_of level e) as (λ b. is_of level e ≡ b → cond b (Some e.held) (held_at level es) ≡ Some before → held_at level (cond b (entry e.level now) e ∷ with_held level now es) ≡ Some now) [
      | true ↦ λ is g. rw is refl
      | false ↦ λ is g. rw is (held_at-with_held level before now es g)
    ] refl h

pub KeepsOthers-with_held : (level : ℕ) (held : Held) (es : List Entry) → KeepsOthers level es (with_held level held es)
KeepsOthers-with_held level held [] other n = refl
KeepsOthers-with_held level held (e ∷ es) other n =
    let rest = KeepsOthers-with_held level held es other n in
    elim (is_of level e) as (λ b. is_of level e ≡ b → held_at other (cond b (entry e.level held) e ∷ with_held level held es) ≡ cond (is_of other e) (Some e.held) (held_at other es)) [
      | true ↦ λ h. rw (is_of-other level other e n h) rest
      | false ↦ λ h. ap (λ (r : Option Held). cond (is_of other e) (Some e.held) r) rest
    ] refl

-- the last of a list with one more in front
last_or-cases : (e : Entry) (xs : List Entry) → (last_or (Some e) xs ≡ Some e) ⊎ (last_or (Some e) xs ≡ last_or None xs)
last_or-cases e [] = inl refl
last_or-cases e (x ∷ xs) = inr refl

unread_is : (held : Held) → is_unread held ≡ true → held ≡ Ready 0
unread_is (Writing worker) h = absurd (false≢true h)
unread_is (Ready readers) h =
    let none : readers ≡ 0 = grind (arith, nat_tests) in
    ap Ready none

-- the level stands in the list, and where it stands once it is written and nobody reads it
abbrev StandsFree : ℕ → List Entry → Type 0
StandsFree level es = (1 ≤ times level es) × (times level es ≤ 1 → held_at level es ≡ Some (Ready 0))

stands_here : (level : ℕ) (e : Entry) (es : List Entry) → e.level ≡ level → is_free e ≡ true → StandsFree level (e ∷ es)
stands_here level e es same free =
    let own : is_of level e ≡ true = grind (arith, nat_tests) in
    rw own (omega arith, λ few. ap Some (unread_is e.held free))

stands_later : (level : ℕ) (e : Entry) (es : List Entry) → StandsFree level es → StandsFree level (e ∷ es)
stands_later level e es stands =
    elim (is_of level e) as (λ b. (1 ≤ length (cond b (e ∷ filter (is_of level) es) (filter (is_of level) es))) × (length (cond b (e ∷ filter (is_of level) es) (filter (is_of level) es)) ≤ 1 → cond b (Some e.held) (held_at level es) ≡ Some (Ready 0)))
    [ true ↦ (omega arith, λ few. absurd (omega (arith, few, stands.0))) | false ↦ stands ]

stands_free : (level : ℕ) (es : List Entry) → evict_answer es ≡ Some level → StandsFree level es
stands_free level [] h = absurd (cc h)
stands_free level (e ∷ es) h =
    elim (is_free e) as (λ b. is_free e ≡ b → level_of (last_or None (cond b (e ∷ filter is_free es) (filter is_free es))) ≡ Some level → StandsFree level (e ∷ es)) [
      | true ↦ λ free g.
          elim (last_or-cases e (filter is_free es)) [
            | inl last ↦
                let same : Some e.level ≡ Some level = sym (ap level_of last) ∙ g in
                stands_here level e es (cc) free
            | inr last ↦ stands_later level e es (stands_free level es (sym (ap level_of last) ∙ g))
          ]
      | false ↦ λ _ g. stands_later level e es (stands_free level es g)
    ] refl h

-- the level that goes is written, and nobody reads it
pub held_at-evicted : (slots level : ℕ) (es : List Entry) → FitSlots slots es → evict_answer es ≡ Some level → held_at level es ≡ Some (Ready 0)
held_at-evicted slots level es fit h = (stands_free level es h).1 (fit.distinct level)
