-- Lemmas on prefixes of a run.
use Rattle.std.proofs.Common.{◌≡◌, ℕ, Bool, true, nat_eq, Global, arith, ◌&&◌, List, [], ◌∷◌, ◌++◌, length, map, refl, sym, ap, ◌∙◌}
use Rattle.std.specs.List.{All, flat_map, fold}
use Rattle.std.specs.Arc.{arc_value}
use Rattle.std.specs.declared.sync.Arc.{Arc}
use Rattle.std.proofs.lemmas.Bool.Decides.{nat_tests}
use Rattle.std.specs.Hash as fed
use Rattle.std.specs.Cmp.Lexicographic.{pointwise}
use Rattle.std.proofs.lemmas.List.{length-map}
use Rattle.std.proofs.lemmas.List.Elements.{All-push, All-same}
use Rattle.pipe_nodes.specs.declared.active.Active.{Active}
use Rattle.pipe_nodes.specs.Active.{IsFit}
use Rattle.pipe_nodes.specs.Prefix.{PrefixSeen, prefix}
use Rattle.pipe_nodes.specs.SamePrefix.{same_active, same_prefix, active_input, prefix_input}

-- one instance more, within its ranges
pub fit-push : (old new : List Active) (a : Active) → new ≡ old ++ a ∷ [] → All IsFit old → IsFit a → All IsFit new
fit-push old new a e all fit = All-same IsFit new (old ++ a ∷ []) e (All-push IsFit old a all fit)

-- comparing through a function is comparing what it gives
pub pointwise_through : {A B : Type 0} (E : B → B → Bool) (f : A → B) (xs ys : List A) → pointwise (λ x y. E (f x) (f y)) xs ys ≡ pointwise E (map f xs) (map f ys)
pointwise_through E f [] [] = refl
pointwise_through E f [] (y ∷ ys) = refl
pointwise_through E f (x ∷ xs) [] = refl
pointwise_through E f (x ∷ xs) (y ∷ ys) = ap (λ b. E (f x) (f y) && b) (pointwise_through E f xs ys)

flat_through : {A B : Type 0} (F : B → fed.HashWrites) (f : A → B) (xs : List A) → flat_map (λ x. F (f x)) xs ≡ flat_map F (map f xs)
flat_through F f [] = refl
flat_through F f (x ∷ xs) = ap (λ rest. F (f x) ++ rest) (flat_through F f xs)

-- feeding through a function is feeding what it gives
pub slice_through : {A B : Type 0} (F : B → fed.HashWrites) (f : A → B) (xs : List A) → fed.slice (λ x. F (f x)) xs ≡ fed.slice F (map f xs)
slice_through F f xs = ap (λ n. fed.usize n ++ flat_map (λ x. F (f x)) xs) (sym (length-map xs f)) ∙ ap (λ rest. fed.usize (length (map f xs)) ++ rest) (flat_through F f xs)

equal_numbers : (a b : ℕ) → a ≡ b → nat_eq a b ≡ true
equal_numbers a b e = grind (arith, nat_tests)

-- instances behind `Arc`s compare as the prefixes do
pub same_told : (p q : PrefixSeen) (a b : ℕ) (xs ys : List (Arc Active Global)) (r : Bool) → prefix a (map arc_value xs) ≡ p → prefix b (map arc_value ys) ≡ q → a ≡ b
    → r ≡ pointwise (λ x y. same_active (arc_value x) (arc_value y)) xs ys → r ≡ same_prefix p q
same_told p q a b xs ys r p_is q_is levels r_is =
    r_is ∙ pointwise_through same_active arc_value xs ys
    ∙ ap (λ t. t && pointwise same_active (map arc_value xs) (map arc_value ys)) (sym (equal_numbers a b levels))
    ∙ ap (λ x. same_prefix x (prefix b (map arc_value ys))) p_is ∙ ap (same_prefix p) q_is

-- and are fed to a hash function as the prefix is
pub fed_told : {S : Type 0} (write : S → List ℕ → S) (p : PrefixSeen) (level : ℕ) (xs : List (Arc Active Global)) (s t u : S) → prefix level (map arc_value xs) ≡ p
    → t ≡ write s (level ∷ []) → u ≡ fold write t (fed.slice (λ x. active_input (arc_value x)) xs) → u ≡ fold write s (prefix_input p)
fed_told write p level xs s t u p_is t_is u_is =
    u_is ∙ ap (λ v. fold write v (fed.slice (λ x. active_input (arc_value x)) xs)) t_is
    ∙ ap (fold write (write s (level ∷ []))) (slice_through active_input arc_value xs) ∙ ap (λ x. fold write s (prefix_input x)) p_is
