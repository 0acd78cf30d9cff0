-- Reading lists of JSON values and the cells of a row, step by step.
use Rattle.std.proofs.Common.{◌≡◌, ℕ, ◌+◌, ◌<◌, ◌≤◌, ℤ, List, [], ◌∷◌, ◌++◌, length, get_or, drop, Option, Some, None, option_map, Ok, refl, sym, ap, ◌∙◌, append_assoc, append-nil}
use Rattle.std.proofs.lemmas.List.{at_drop_more, at_drop_all}
use Rattle.serde_json.specs.View.{view, items_view}
use Rattle.serde_json.specs.declared.value.Value.{Value}
use Rattle.params.specs.Form.{two_integers, ◌>>=◌}
use Rattle.params.specs.Read.{form_read}
use Rattle.params.specs.Stated.{pairs_form}

-- what is read so far, in front of the rest
abbrev pub with_front : {A : Type 0} → List A → Option (List A) → Option (List A)
with_front front rest = option_map (λ xs. front ++ xs) rest

moved : {A : Type 0} (front : List A) (x : A) (rest : Option (List A)) → with_front front (option_map (λ xs. x ∷ xs) rest) ≡ with_front (front ++ x ∷ []) rest
moved front x None = refl
moved front x (Some xs) = ap Some (sym (append_assoc front (x ∷ []) xs))

-- a pair that is read goes to the front
pub pair_read : (front : List (ℤ × ℤ)) (vs : List Value) (i : ℕ) (d : Value) (pair : ℤ × ℤ) → i < length vs → two_integers (view (get_or vs i d)) ≡ Some pair
    → with_front front (pairs_form (items_view (drop i vs))) ≡ with_front (front ++ pair ∷ []) (pairs_form (items_view (drop (i + 1) vs)))
pair_read front vs i d pair h e =
    at_drop_more (λ l. with_front front (pairs_form (items_view l))) vs i d h
    ∙ ap (λ o. with_front front (o >>= λ node. option_map (λ nodes. node ∷ nodes) (pairs_form (items_view (drop (i + 1) vs))))) e
    ∙ moved front pair (pairs_form (items_view (drop (i + 1) vs)))

-- a value that is no pair refuses the list
pub pair_refused : (front : List (ℤ × ℤ)) (vs : List Value) (i : ℕ) (d : Value) → i < length vs → two_integers (view (get_or vs i d)) ≡ None
    → with_front front (pairs_form (items_view (drop i vs))) ≡ None
pair_refused front vs i d h e =
    at_drop_more (λ l. with_front front (pairs_form (items_view l))) vs i d h
    ∙ ap (λ o. with_front front (o >>= λ node. option_map (λ nodes. node ∷ nodes) (pairs_form (items_view (drop (i + 1) vs))))) e

pub pairs_done : (front : List (ℤ × ℤ)) (vs : List Value) (i : ℕ) → length vs ≤ i → with_front front (pairs_form (items_view (drop i vs))) ≡ Some front
pairs_done front vs i h = at_drop_all (λ l. with_front front (pairs_form (items_view l))) vs i h ∙ ap Some (append-nil front)

-- ---- cells

pub some_of : {A : Type 0} (o : Option A) (x : A) → form_read o ≡ Ok x → o ≡ Some x
some_of None x e = cc
some_of (Some y) x e = cc
