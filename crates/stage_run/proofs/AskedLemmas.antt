-- Lemmas on what a run asks of the stage cache.
use Rattle.std.proofs.Common.{◌≡◌, ℕ, zero, suc, ◌+◌, ◌<◌, List, [], ◌∷◌, ◌++◌, length, map, get_or, take, drop, slice_get, slice_index, Some, refl, sym, ap, ◌∙◌, arith, add-one}
use Rattle.std.proofs.lemmas.List.{append_assoc, length-append, take_more}
use Rattle.std.proofs.lemmas.Option.{get_or_from_slice_get, slice_get_read}
use Rattle.px.specs.Area.{Area}
use Rattle.pipe_nodes.specs.declared.active.Active.{Active}
use Rattle.pipe_nodes.specs.Prefix.{PrefixSeen, prefix}
use Rattle.stage_cache.specs.Stages.{Stage, IsRising}
use Rattle.stage_run.specs.Asked.{prefixes}

-- the prefix at a place, with its region
pub prefixes-get : (level : ℕ) (before actives : List Active) (regions : List Area) (k : ℕ) (r : Area) → k < length actives → slice_get regions k ≡ Some r
    → slice_get (prefixes level before actives regions) k ≡ Some (prefix level (before ++ take (suc k) actives), r)
prefixes-get level before [] regions k r within is = absurd (omega arith)
prefixes-get level before (a ∷ later) [] k r within is = cc
prefixes-get level before (a ∷ later) (x ∷ regions) zero r within is = let same : x ≡ r = cc in ap (λ y. Some (prefix level (before ++ a ∷ []), y)) same
prefixes-get level before (a ∷ later) (x ∷ regions) (suc k) r within is =
    prefixes-get level (before ++ a ∷ []) later regions k r (omega arith) is ∙ ap (λ list. Some (prefix level list, r)) (append_assoc before (a ∷ []) (take (suc k) later))

pub length-prefixes : (level : ℕ) (before actives : List Active) (regions : List Area) → length regions ≡ length actives → length (prefixes level before actives regions) ≡ length actives
length-prefixes level before [] regions same = refl
length-prefixes level before (a ∷ later) [] same = absurd (omega arith)
length-prefixes level before (a ∷ later) (x ∷ regions) same = ap suc (length-prefixes level (before ++ a ∷ []) later regions (omega arith))

-- each has one instance more than the one before it
lengths : (level : ℕ) (before actives : List Active) (regions : List Area) (k : ℕ) → k < length (map (λ (s : Stage). length s.0.actives) (prefixes level before actives regions))
    → slice_index (map (λ (s : Stage). length s.0.actives) (prefixes level before actives regions)) k ≡ length before + k + 1
lengths level before [] regions k within = absurd (omega arith)
lengths level before (a ∷ later) [] k within = absurd (omega arith)
lengths level before (a ∷ later) (x ∷ regions) zero within = omega (arith, length-append before (a ∷ []))
lengths level before (a ∷ later) (x ∷ regions) (suc k) within =
    let rest = lengths level (before ++ a ∷ []) later regions k (omega arith) in
    omega (arith, rest, length-append before (a ∷ []))

pub prefixes-rising : (level : ℕ) (before actives : List Active) (regions : List Area) → IsRising (prefixes level before actives regions)
prefixes-rising level before actives regions = λ k within.
    omega (arith, lengths level before actives regions k (omega arith), lengths level before actives regions (k + 1) within)

-- the regions behind the input's
pub behind-first : (regions : List Area) (k : ℕ) → slice_get (drop 1 regions) k ≡ slice_get regions (suc k)
behind-first [] k = refl
behind-first (r ∷ regions) k = refl

pub length-behind : (regions : List Area) (n : ℕ) → length regions ≡ n + 1 → length (drop 1 regions) ≡ n
length-behind [] n is = absurd (omega arith)
length-behind (r ∷ regions) n is = omega arith

-- what is asked, by one prefix more
pub asked-more : (level : ℕ) (actives : List Active) (regions : List Area) (i : ℕ) (a : Active) (r : Area) (p : PrefixSeen) → i < length actives → length regions ≡ length actives + 1
    → a ≡ get_or actives i a → r ≡ get_or regions (i + 1) r → p ≡ prefix level (take i actives ++ a ∷ [])
    → take (i + 1) (prefixes level [] actives (drop 1 regions)) ≡ take i (prefixes level [] actives (drop 1 regions)) ++ (p, r) ∷ []
asked-more level actives regions i a r p within count is r_is p_is =
    let all = prefixes level [] actives (drop 1 regions) in
    let region : slice_get (drop 1 regions) i ≡ Some r = behind-first regions i ∙ ap (slice_get regions) (sym (add-one i)) ∙ slice_get_read regions (length regions) (i + 1) r refl (omega arith) r_is in
    let more : take (suc i) actives ≡ take i actives ++ a ∷ [] = ap (λ n. take n actives) (sym (add-one i)) ∙ take_more actives i a within ∙ ap (λ x. take i actives ++ x ∷ []) (sym is) in
    let here : slice_get all i ≡ Some (p, r) = prefixes-get level [] actives (drop 1 regions) i r within region ∙ ap (λ list. Some (prefix level list, r)) more ∙ ap (λ q. Some (q, r)) (sym p_is) in
    let long : length all ≡ length actives = length-prefixes level [] actives (drop 1 regions) (length-behind regions (length actives) count) in
    take_more all i (p, r) (omega (arith, long)) ∙ ap (λ x. take i all ++ x ∷ []) (get_or_from_slice_get all i (p, r) (p, r) here)

-- what is asked, of slices of the run's lists
pub asked-list : (level : ℕ) (listed all : List Stage) (pieces actives : List Active) (places regions : List Area) → listed ≡ all → all ≡ prefixes level [] pieces (drop 1 places) → pieces ≡ actives → places ≡ regions
    → listed ≡ prefixes level [] actives (drop 1 regions)
asked-list level listed all pieces actives places regions is all_is pieces_are places_are =
    is ∙ all_is ∙ ap (λ l. prefixes level [] l (drop 1 places)) pieces_are ∙ ap (λ l. prefixes level [] actives (drop 1 l)) places_are
