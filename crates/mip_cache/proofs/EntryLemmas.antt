-- Lemmas on lists of entries: how a level is held, and which one is the last free one.
use Rattle.std.proofs.Common.{◌≡◌, ◌≢◌, ℕ, ◌+◌, ◌<◌, ◌≤◌, true, false, cond, List, [], ◌∷◌, ◌++◌, length, get_or, take, drop, set, refl, sym, ap, ◌∙◌, arith, Some, None}
use Rattle.std.specs.Prelude.{Option}
use Rattle.std.specs.List.{filter, last_or}
use Rattle.std.specs.Option.{option_map}
use Rattle.std.proofs.lemmas.Bool.Decides.{nat_tests}
use Rattle.std.proofs.lemmas.List.{append-nil, get_or_default}
use Rattle.std.proofs.lemmas.List.Edits.{map_over_more}
use Rattle.std.proofs.lemmas.List.Elements.{filter_more}
use Rattle.mip_cache.specs.declared.entry.Held.{Held}
use Rattle.mip_cache.specs.declared.entry.Entry.{Entry}
use Rattle.mip_cache.specs.Mipmaps.{entry, is_of, held_at, held_as, with_held, is_free, evict_answer}

abbrev pub level_of : Option Entry → Option ℕ
level_of found = option_map (λ (e : Entry). e.level) found

last_or-push : (o : Option Entry) (xs : List Entry) (x : Entry) → last_or o (xs ++ x ∷ []) ≡ Some x
last_or-push o [] x = refl
last_or-push o (y ∷ xs) x = last_or-push (Some y) xs x

-- one entry more: it is the last free one where it is free, and changes nothing where it isn't
pub evict_answer-free : (xs : List Entry) (i : ℕ) (d : Entry) → i < length xs → is_free (get_or xs i d) ≡ true → evict_answer (take (i + 1) xs) ≡ Some (get_or xs i d).level
evict_answer-free xs i d l h =
    let more = rw h at (filter_more is_free xs i d l) in
    ap (λ es. level_of (last_or None es)) more ∙ ap level_of (last_or-push None (filter is_free (take i xs)) (get_or xs i d))

pub evict_answer-other : (xs : List Entry) (i : ℕ) (d : Entry) → i < length xs → is_free (get_or xs i d) ≡ false → evict_answer (take (i + 1) xs) ≡ evict_answer (take i xs)
evict_answer-other xs i d l h =
    let more = rw h at (filter_more is_free xs i d l) in
    ap (λ es. level_of (last_or None es)) (more ∙ append-nil (filter is_free (take i xs)))

-- a list with an element has a last one
last_or-Some : (x : Entry) (xs : List Entry) → level_of (last_or (Some x) xs) ≢ None
last_or-Some x [] = λ e. cc
last_or-Some x (y ∷ xs) = last_or-Some y xs

level_of_last-none : (xs : List Entry) → level_of (last_or None xs) ≡ None → xs ≡ []
level_of_last-none [] h = refl
level_of_last-none (x ∷ xs) h = absurd (last_or-Some x xs h)

-- where no level goes, none is free
pub evict_answer-none : (es : List Entry) → evict_answer es ≡ None → filter is_free es ≡ []
evict_answer-none es h = level_of_last-none (filter is_free es) h

-- how many entries are of the level
abbrev pub times : ℕ → List Entry → ℕ
times level es = length (filter (is_of level) es)

pub times_none : (level : ℕ) (es : List Entry) → held_at level es ≡ None → times level es ≡ 0
times_none level [] h = refl
times_none level (e ∷ es) h =
    elim (is_of level e) as (λ b. cond b (Some e.held) (held_at level es) ≡ None → length (cond b (e ∷ filter (is_of level) es) (filter (is_of level) es)) ≡ 0)
    [ true ↦ λ g. cc | false ↦ λ g. times_none level es g ] h

pub times_some : (level : ℕ) (held : Held) (es : List Entry) → held_at level es ≡ Some held → 1 ≤ times level es
times_some level held [] h = cc
times_some level held (e ∷ es) h =
    elim (is_of level e) as (λ b. cond b (Some e.held) (held_at level es) ≡ Some held → 1 ≤ length (cond b (e ∷ filter (is_of level) es) (filter (is_of level) es)))
    [ true ↦ λ g. omega arith | false ↦ λ g. times_some level held es g ] h

-- one entry more of those that are set: it is set where it is of the level, and stays where it isn't
abbrev IsSetUpTo : ℕ → Held → List Entry → List Entry → ℕ → Type 0
IsSetUpTo level held old now i = now ≡ with_held level held (take i old) ++ drop i old

pub with_held-more : (level : ℕ) (held : Held) (old now : List Entry) (i : ℕ) (d e : Entry) → i < length old → length now ≡ length old → IsSetUpTo level held old now i → held_as level held (get_or now i d) ≡ e → IsSetUpTo level held old (set now i e) (i + 1)
with_held-more level held old now i d e l long so_far here =
    let same = get_or_default now i d (get_or now i d) (omega arith) in
    ap (set now i) (sym here) ∙ map_over_more (held_as level held) old now i (get_or now i d) l so_far same

pub held_as-same : (level : ℕ) (held : Held) (e : Entry) → e.level ≡ level → held_as level held e ≡ entry e.level held
held_as-same level held e h =
    let is : is_of level e ≡ true = grind (arith, nat_tests) in
    rw is refl

pub held_as-other : (level : ℕ) (held : Held) (e : Entry) → e.level ≢ level → held_as level held e ≡ e
held_as-other level held e h =
    let is : is_of level e ≡ false = grind (arith, nat_tests) in
    rw is refl
