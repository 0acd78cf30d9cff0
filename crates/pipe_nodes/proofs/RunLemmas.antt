-- Lemmas on runs over whole pictures.
use Rattle.std.proofs.Common.{◌≡◌, ℕ, ◌+◌, ◌<◌, List, [], ◌∷◌, ◌++◌, length, get_or, take, refl, sym, ap, ◌∙◌, subst, Option, Some, None}
use Rattle.std.specs.Prelude.{unwrap_or, Result, Ok, Err, IfOk}
use Rattle.std.specs.Option.{option_or}
use Rattle.std.proofs.lemmas.List.{append_assoc, append-nil, map-append, take_more}
use Rattle.px.specs.Area.{Area}
use Rattle.px.specs.Picture.{Picture}
use Rattle.px.specs.Cut.{Cut, IsCutOf, picture_of}
use Rattle.geometry.specs.Sides.{sides_after, sides_behind}
use Rattle.pipe_nodes.specs.declared.active.Active.{Active}
use Rattle.pipe_nodes.specs.declared.tracing.Tracing.{Tracing}
use Rattle.pipe_nodes.specs.Applied.{HasShape, IsMade, IsTracing}
use Rattle.pipe_nodes.specs.Kinds.{kind_after}
use Rattle.pipe_nodes.specs.Whole.{means, sides_of, settings_of, after_one, run_from, input_of, whole}
use Rattle.pipe_nodes.proofs.MeansLemmas.{means-kind, means-sides}
use Rattle.pipe_nodes.proofs.BlendLemmas.{blended-kind, blended-sides}

run_from-more : (source : Picture) (level : ℕ) (before actives : List Active) (a : Active) (i : Picture)
    → run_from source level before (actives ++ a ∷ []) i ≡ after_one source level (before ++ actives) a (run_from source level before actives i)
run_from-more source level before [] a i = ap (λ b. after_one source level b a i) (sym (append-nil before))
run_from-more source level before (x ∷ actives) a i =
    run_from-more source level (before ++ x ∷ []) actives a (after_one source level before x i)
    ∙ ap (λ b. after_one source level b a (run_from source level (before ++ x ∷ []) actives (after_one source level before x i))) (append_assoc before (x ∷ []) actives)

-- one module instance more
pub whole-push : (source : Picture) (level : ℕ) (actives : List Active) (a : Active) → whole source level (actives ++ a ∷ []) ≡ after_one source level actives a (whole source level actives)
whole-push source level actives a = run_from-more source level [] actives a (input_of source level)

-- what an instance makes of a stage is that region of the longer run
pub rendered : (source : Picture) (level : ℕ) (actives : List Active) (a : Active) (o : Cut) → IsCutOf (after_one source level actives a (whole source level actives)) o → IsCutOf (whole source level (actives ++ a ∷ [])) o
rendered source level actives a o cut = subst (λ m. IsCutOf m o) (sym (whole-push source level actives a)) cut

-- ---- sides and kinds

pub after_one-sides : (source : Picture) (level : ℕ) (before : List Active) (a : Active) (i : Picture) → sides_of (after_one source level before a i) ≡ sides_after a.params (sides_of i)
after_one-sides source level before a i = blended-sides a.blend source level before i (means a.params level i) ∙ means-sides a.params level i

pub after_one-kind : (source : Picture) (level : ℕ) (before : List Active) (a : Active) (i : Picture) → (after_one source level before a i).kind ≡ kind_after i.kind a.params
after_one-kind source level before a i = blended-kind a.blend source level before i (means a.params level i) ∙ means-kind a.params level i

run_from-sides : (source : Picture) (level : ℕ) (before actives : List Active) (i : Picture) → sides_of (run_from source level before actives i) ≡ sides_behind (settings_of actives) (sides_of i)
run_from-sides source level before [] i = refl
run_from-sides source level before (a ∷ later) i =
    run_from-sides source level (before ++ a ∷ []) later (after_one source level before a i) ∙ ap (sides_behind (settings_of later)) (after_one-sides source level before a i)

pub whole-sides : (source : Picture) (level : ℕ) (actives : List Active) → sides_of (whole source level actives) ≡ sides_behind (settings_of actives) (sides_of (input_of source level))
whole-sides source level actives = run_from-sides source level [] actives (input_of source level)

pub settings_of-push : (actives : List Active) (a : Active) → settings_of (actives ++ a ∷ []) ≡ settings_of actives ++ a.params ∷ []
settings_of-push actives a = map-append (λ (x : Active). x.params) actives (a ∷ [])

pub itself : (p : Cut) → IsCutOf (picture_of p) p
itself p = record { kind = refl; wide = refl; high = refl; same = λ x y c inside channel. refl }

-- ---- one instance

-- the plane that stands after a module instance is cut out of what the instance makes
pub made-cut : (a : Active) (level : ℕ) (t : Tracing) (input : Cut) (region : Area) (made : Option Cut) → IsMade a level t input region made
    → (source i : Picture) (before : List Active) → IsTracing source level before (input.w, input.h) t → IsCutOf i input → IsCutOf (after_one source level before a i) (unwrap_or made input)
made-cut a level t input region None is source i before tracing part = subst (λ m. IsCutOf m input) (sym (is.same source i before part)) part
made-cut a level t input region (Some o) is source i before tracing part = is.cut source i before tracing part

-- and it has the kind and the sides of the module's output
pub made-shape : (a : Active) (level : ℕ) (t : Tracing) (input : Cut) (region : Area) (made : Option Cut) → IsMade a level t input region made → HasShape a.params input (unwrap_or made input)
made-shape a level t input region None is =
    let q = picture_of input in
    let same = is.same q q [] (itself input) in
    record { kind = sym (ap (λ (m : Picture). m.kind) same) ∙ after_one-kind q level [] a q; sides = sym (ap sides_of same) ∙ after_one-sides q level [] a q }
made-shape a level t input region (Some o) is = is.shape

-- ---- along the instances

pub taken : (actives : List Active) (k : ℕ) (a : Active) → k < length actives → a ≡ get_or actives k a → take (k + 1) actives ≡ take k actives ++ a ∷ []
taken actives k a within is = take_more actives k a within ∙ ap (λ x. take k actives ++ x ∷ []) (sym is)

-- the plane that stands after one more is the new one where there is one, else the plane that stood
pub standing-more : (next made : Option Cut) (source : Cut) → unwrap_or (option_or next made) source ≡ unwrap_or next (unwrap_or made source)
standing-more None made source = refl
standing-more (Some p) made source = refl

-- ---- the plane in the end

-- two facts of a value, where there is one, put together
pub ok_both : {T E : Type 0} (r : Result T E) (P Q S : T → Type 0) → ((x : T) → P x → Q x → S x) → IfOk r P → IfOk r Q → IfOk r S
ok_both (Ok x) P Q S join p q = join x p q
ok_both (Err e) P Q S join p q = tt
