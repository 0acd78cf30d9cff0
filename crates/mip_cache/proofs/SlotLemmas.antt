-- The calls' lists fit the slots.
use Rattle.std.proofs.Common.{◌≡◌, ℕ, ◌+◌, ◌<◌, ◌≤◌, Bool, true, false, not, cond, List, [], ◌∷◌, length, suc, refl, sym, ap, subst, arith, Some, None}
use Rattle.std.specs.List.{filter}
use Rattle.std.proofs.lemmas.Bool.Decides.{nat_tests}
use Rattle.std.proofs.lemmas.List.{length-map}
use Rattle.std.proofs.lemmas.List.Elements.{All-cons, All-filter, All-map, All-weaker}
use Rattle.std.proofs.lemmas.List.Filters.{length-filter_both}
use Rattle.mip_cache.specs.declared.entry.Held.{Held}
use Rattle.mip_cache.specs.declared.entry.Entry.{Entry}
use Rattle.mip_cache.specs.Mipmaps.{entry, is_of, held_at, without, held_as, with_held}
use Rattle.mip_cache.specs.Slots.{IsLevel, FitSlots}
use Rattle.mip_cache.proofs.EntryLemmas.{times, times_none, times_some}

abbrev HasLevel : Entry → Type 0
HasLevel e = IsLevel e.level

not_not : (b : Bool) → b ≡ not (not b)
not_not true = refl
not_not false = refl

pub length-without : (level : ℕ) (es : List Entry) → length (without level es) + times level es ≡ length es
length-without level es = length-filter_both (λ e. not (is_of level e)) (is_of level) (λ e. not_not (is_of level e)) es

-- the level taken out is gone
times-without_same : (level : ℕ) (es : List Entry) → times level (without level es) ≡ 0
times-without_same level [] = refl
times-without_same level (e ∷ es) =
    elim (is_of level e) as (λ b. is_of level e ≡ b → times level (cond (not b) (e ∷ without level es) (without level es)) ≡ 0)
    [ true ↦ λ h. times-without_same level es | false ↦ λ h. rw h (times-without_same level es) ] refl

-- and no other comes in
times-without : (level other : ℕ) (es : List Entry) → times other (without level es) ≤ times other es
times-without level other [] = omega arith
times-without level other (e ∷ es) =
    let rest = times-without level other es in
    elim (is_of level e) as (λ b. times other (cond (not b) (e ∷ without level es) (without level es)) ≤ length (cond (is_of other e) (e ∷ filter (is_of other) es) (filter (is_of other) es))) [
      | true ↦ elim (is_of other e) as (λ b. times other (without level es) ≤ length (cond b (e ∷ filter (is_of other) es) (filter (is_of other) es))) [ true ↦ omega arith | false ↦ rest ]
      | false ↦ elim (is_of other e) as (λ b. length (cond b (e ∷ filter (is_of other) (without level es)) (filter (is_of other) (without level es))) ≤ length (cond b (e ∷ filter (is_of other) es) (filter (is_of other) es))) [ true ↦ omega arith | false ↦ rest ]
    ]

pub FitSlots-without : (slots level : ℕ) (es : List Entry) → FitSlots slots es → FitSlots slots (without level es)
FitSlots-without slots level es fit = record {
  few = omega (arith, fit.few, length-without level es);
  levels = All-filter (λ e. not (is_of level e)) HasLevel es fit.levels;
  distinct = λ other. omega (arith, times-without level other es, fit.distinct other);
}

-- an entry of another way to be held is of the same level
held_as-level : (level : ℕ) (held : Held) (e : Entry) → (held_as level held e).level ≡ e.level
held_as-level level held e = elim (is_of level e) as (λ b. (cond b (entry e.level held) e).level ≡ e.level) [ true ↦ refl | false ↦ refl ]

times-with_held : (level other : ℕ) (held : Held) (es : List Entry) → times other (with_held level held es) ≡ times other es
times-with_held level other held [] = refl
times-with_held level other held (e ∷ es) =
    let same = held_as-level level held e in
    let rest = times-with_held level other held es in
    rw same (elim (is_of other e) as (λ b. length (cond b (held_as level held e ∷ filter (is_of other) (with_held level held es)) (filter (is_of other) (with_held level held es))) ≡ length (cond b (e ∷ filter (is_of other) es) (filter (is_of other) es))) [ true ↦ ap (λ n. suc n) rest | false ↦ rest ])

pub FitSlots-with_held : (slots level : ℕ) (held : Held) (es : List Entry) → FitSlots slots es → FitSlots slots (with_held level held es)
FitSlots-with_held slots level held es fit = record {
  few = omega (arith, fit.few, length-map es (held_as level held));
  levels = All-map HasLevel (held_as level held) es (All-weaker HasLevel (λ e. HasLevel (held_as level held e)) (λ e h. subst IsLevel (sym (held_as-level level held e)) h) es fit.levels);
  distinct = λ other. omega (arith, times-with_held level other held es, fit.distinct other);
}

-- an entry in front of others, of which none is of its level
times-first : (level other : ℕ) (held : Held) (es : List Entry) → times level es ≡ 0 → times other es ≤ 1 → times other (entry level held ∷ es) ≤ 1
times-first level other held es none few =
    elim (is_of other (entry level held)) as (λ b. is_of other (entry level held) ≡ b → length (cond b (entry level held ∷ filter (is_of other) es) (filter (is_of other) es)) ≤ 1) [
      | true ↦ λ h.
          let same : level ≡ other = grind (arith, nat_tests) in
          let none_of : times other es ≡ 0 = subst (λ l. times l es ≡ 0) same none in
          omega arith
      | false ↦ λ h. few
    ] refl

FitSlots-first : (slots level : ℕ) (held : Held) (es : List Entry) → IsLevel level → times level es ≡ 0 → length es < slots → FitSlots slots es → FitSlots slots (entry level held ∷ es)
FitSlots-first slots level held es is_level none room fit = record {
  few = omega arith;
  levels = All-cons HasLevel (entry level held) es is_level fit.levels;
  distinct = λ other. times-first level other held es none (fit.distinct other);
}

-- a level that has a slot comes to the front
pub length-without_some : (slots level : ℕ) (held : Held) (es : List Entry) → FitSlots slots es → held_at level es ≡ Some held → length (without level es) < slots
length-without_some slots level held es fit h = omega (arith, fit.few, length-without level es, times_some level held es h)

pub FitSlots-front : (slots level : ℕ) (before now : Held) (es : List Entry) → IsLevel level → FitSlots slots es → held_at level es ≡ Some before → FitSlots slots (entry level now ∷ without level es)
FitSlots-front slots level before now es is_level fit h =
    FitSlots-first slots level now (without level es) is_level (times-without_same level es) (length-without_some slots level before es fit h) (FitSlots-without slots level es fit)

-- a level that has none gets one
pub FitSlots-new : (slots level : ℕ) (held : Held) (es : List Entry) → IsLevel level → FitSlots slots es → held_at level es ≡ None → length es < slots → FitSlots slots (entry level held ∷ es)
FitSlots-new slots level held es is_level fit h room = FitSlots-first slots level held es is_level (times_none level es h) room fit
