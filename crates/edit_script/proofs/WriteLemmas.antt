-- Writing the elements of a list one by one.
use Rattle.std.proofs.Common.{◌≡◌, ℕ, ◌+◌, ◌<◌, ◌≤◌, List, [], ◌∷◌, ◌++◌, map, take, get_or, Some, sym, ap, ◌∙◌, arith, subst, ⊎_elim}
use Rattle.std.specs.Prelude.{slice_get, slice_index_or}
use Rattle.std.specs.List.{AllWithin}
use Rattle.std.proofs.lemmas.List.{take_more, map-append}
use Rattle.std.proofs.lemmas.Option.{get_or_from_slice_get, slice_get_within}
use Rattle.std.proofs.lemmas.Bool.{cases_lt}

-- one more element is written behind those before it
pub mapped_more : {X Y : Type 0} (f : X → Y) (xs : List X) (i : ℕ) (x : X) → slice_get xs i ≡ Some x → map f (take (i + 1) xs) ≡ map f (take i xs) ++ f x ∷ []
mapped_more f xs i x e =
    let at : get_or xs i x ≡ x = get_or_from_slice_get xs i x x e in
    ap (map f) (take_more xs i x (slice_get_within xs i x e) ∙ ap (λ y. take i xs ++ y ∷ []) at) ∙ map-append f (take i xs) (x ∷ [])

-- what holds of one more element
pub within_more : {X : Type 0} (P : X → Type 0) (xs : List X) (i : ℕ) (x : X) → AllWithin P xs 0 i → slice_get xs i ≡ Some x → P x → AllWithin P xs 0 (i + 1)
within_more P xs i x all e h k d low high = ⊎_elim
    (λ (below : k < i). all k d low below)
    (λ (above : i ≤ k).
    let same : i ≡ k = omega arith in
    let here : x ≡ get_or xs i d = sym (get_or_from_slice_get xs i x d e) in
    subst (λ n. P (slice_index_or xs n d)) same (subst P here h))
    (cases_lt k i)
