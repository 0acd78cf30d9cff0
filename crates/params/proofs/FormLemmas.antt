-- Parts of a JSON value, step by step.
use Rattle.std.proofs.Common.{◌≡◌, ℕ, ◌+◌, ◌<◌, Bool, ◌||◌, List, length, get_or, drop, map, bytes_eq, Bor, String, Global, string_bytes, true, false, [], ◌∷◌, ◌++◌, ◌&&◌, Some, None, refl, ap, ◌∙◌, arith}
use Rattle.std.proofs.lemmas.List.{drop_more}
use Rattle.std.specs.Map.{keys_of}
use Rattle.serde_json.specs.View.{view, items_view, members_view}
use Rattle.serde_json.specs.declared.value.Value.{Value}
use Rattle.params.specs.Form.{is_one_of, only, two_items, three_items}

-- a key is one of those left, or one of those behind the next
pub one_of_more : (key : List ℕ) (keys : List (Bor (List ℕ))) (i : ℕ) (d : Bor (List ℕ)) (b : Bool) → i < length keys → bytes_eq key (get_or keys i d).now ≡ b
    → is_one_of key (map (λ k. k.now) (drop i keys)) ≡ (b || is_one_of key (map (λ k. k.now) (drop (i + 1) keys)))
one_of_more key keys i d b h e =
    ap (λ l. is_one_of key (map (λ k. k.now) l)) (drop_more keys i d h) ∙ ap (λ r. r || is_one_of key (map (λ k. k.now) (drop (i + 1) keys))) e

-- each name is one of those
abbrev pub all_among : List (List ℕ) → List (String Global) → Bool
all_among keys [] = true
all_among keys (name ∷ names) = is_one_of (string_bytes name) keys && all_among keys names

pub only-members_view : (keys : List (List ℕ)) (es : List (String Global × Value)) → only keys (members_view es) ≡ all_among keys (keys_of es)
only-members_view keys [] = refl
only-members_view keys (e ∷ es) = ap (λ b. is_one_of (string_bytes e.0) keys && b) (only-members_view keys es)

-- ---- lists of a length

pub not_two : (vs : List Value) → (length vs ≡ 2 → ⊥) → two_items (items_view vs) ≡ None
not_two [] h = refl
not_two (a ∷ []) h = refl
not_two (a ∷ b ∷ []) h = absurd (h refl)
not_two (a ∷ b ∷ c ∷ more) h = refl

pub not_three : (vs : List Value) → (length vs ≡ 3 → ⊥) → three_items (items_view vs) ≡ None
not_three [] h = refl
not_three (a ∷ []) h = refl
not_three (a ∷ b ∷ []) h = refl
not_three (a ∷ b ∷ c ∷ []) h = absurd (h refl)
not_three (a ∷ b ∷ c ∷ d ∷ more) h = refl

pub just_two : (vs : List Value) (d : Value) → length vs ≡ 2 → two_items (items_view vs) ≡ Some (view (get_or vs 0 d), view (get_or vs 1 d))
just_two [] d h = absurd (omega arith)
just_two (a ∷ []) d h = absurd (omega arith)
just_two (a ∷ b ∷ []) d h = refl
just_two (a ∷ b ∷ c ∷ more) d h = absurd (omega arith)

pub just_three : (vs : List Value) (d : Value) → length vs ≡ 3 → three_items (items_view vs) ≡ Some (view (get_or vs 0 d), view (get_or vs 1 d), view (get_or vs 2 d))
just_three [] d h = absurd (omega arith)
just_three (a ∷ []) d h = absurd (omega arith)
just_three (a ∷ b ∷ []) d h = absurd (omega arith)
just_three (a ∷ b ∷ c ∷ []) d h = refl
just_three (a ∷ b ∷ c ∷ e ∷ more) d h = absurd (omega arith)

-- ---- one of two lists

or_assoc : (a b c : Bool) → (a || (b || c)) ≡ ((a || b) || c)
or_assoc true b c = refl
or_assoc false b c = refl

-- a key of two lists is one of the first or of the second
pub one_of_either : (key : List ℕ) (xs ys : List (List ℕ)) → is_one_of key (xs ++ ys) ≡ (is_one_of key xs || is_one_of key ys)
one_of_either key [] ys = refl
one_of_either key (x ∷ xs) ys = ap (λ b. bytes_eq key x || b) (one_of_either key xs ys) ∙ or_assoc (bytes_eq key x) (is_one_of key xs) (is_one_of key ys)
