-- What stands under a name after puts, and when two shelves hold the same files.
use Rattle.std.proofs.Common.{◌≡◌, ◌≢◌, ℕ, Bool, true, false, cond, List, [], ◌∷◌, ◌++◌, Some, refl, sym, ap, ◌∙◌}
use Rattle.std.specs.Str.{bytes_eq}
use Rattle.std.specs.Cmp.Lexicographic.{nat_list_cmp_total, nat_list_eq_equiv}
use Rattle.std.specs.FinMap.{slice_cmp-IsAntisymmetric, nat_cmp-IsAntisymmetric, same_map, get-insert}
use Rattle.std.specs.List.{AllByRecursion}
use Rattle.std.proofs.lemmas.Bool.{false_from_ne_true}
use Rattle.std.proofs.lemmas.Slice.Eq.{bytes_eq-Decides}
use Rattle.std.proofs.lemmas.Map.Text.{is_eq-slice_cmp}
use Rattle.outside.specs.Shelf.{Files, held, with_file, with_files}

itself : (name : List ℕ) → bytes_eq name name ≡ true
itself name = nat_list_eq_equiv.refl name

equal : (a b : List ℕ) → bytes_eq a b ≡ true → a ≡ b
equal a b e = (bytes_eq-Decides a b).0 e

apart : (a b : List ℕ) → a ≢ b → bytes_eq a b ≡ false
apart a b other = false_from_ne_true (bytes_eq a b) (λ e. other (equal a b e))

hidden : {A : Type 0} (b : Bool) (x y z : A) → cond b x (cond b y z) ≡ cond b x z
hidden true x y z = refl
hidden false x y z = refl

swapped : {A : Type 0} (a b : Bool) (x y z : A) → (a ≡ true → b ≡ true → ⊥) → cond a x (cond b y z) ≡ cond b y (cond a x z)
swapped true true x y z never = absurd (never refl refl)
swapped true false x y z never = refl
swapped false b x y z never = refl

-- after a put its name has the new bytes, and each other name what it had
pub held-with_file : (name bytes : List ℕ) (fs : Files) (q : List ℕ) → held (with_file name bytes fs) q ≡ cond (bytes_eq q name) (Some bytes) (held fs q)
held-with_file name bytes fs q = get-insert nat_list_cmp_total fs name bytes q ∙ ap (λ b. cond b (Some bytes) (held fs q)) (is_eq-slice_cmp q name)

pub held-with_file-same : (name bytes : List ℕ) (fs : Files) → held (with_file name bytes fs) name ≡ Some bytes
held-with_file-same name bytes fs = held-with_file name bytes fs name ∙ ap (λ b. cond b (Some bytes) (held fs name)) (itself name)

pub held-with_file-other : (name bytes : List ℕ) (fs : Files) (q : List ℕ) → q ≢ name → held (with_file name bytes fs) q ≡ held fs q
held-with_file-other name bytes fs q other = held-with_file name bytes fs q ∙ ap (λ b. cond b (Some bytes) (held fs q)) (apart q name other)

-- files that hold the same under each name are the same
pub same_files : (fs gs : Files) → ((q : List ℕ) → held fs q ≡ held gs q) → fs ≡ gs
same_files fs gs same = same_map nat_list_cmp_total (slice_cmp-IsAntisymmetric nat_cmp-IsAntisymmetric) fs gs same

-- of two puts at one name the later one stands
pub with_file-again : (name first last : List ℕ) (fs : Files) → with_file name last (with_file name first fs) ≡ with_file name last fs
with_file-again name first last fs = same_files _ _ (λ q.
    held-with_file name last (with_file name first fs) q
    ∙ ap (cond (bytes_eq q name) (Some last)) (held-with_file name first fs q)
    ∙ hidden (bytes_eq q name) (Some last) (Some first) (held fs q)
    ∙ sym (held-with_file name last fs q))

-- puts at two names may change places
pub with_file-swap : (a x b y : List ℕ) (fs : Files) → a ≢ b → with_file a x (with_file b y fs) ≡ with_file b y (with_file a x fs)
with_file-swap a x b y fs other = same_files _ _ (λ q.
    held-with_file a x (with_file b y fs) q
    ∙ ap (cond (bytes_eq q a) (Some x)) (held-with_file b y fs q)
    ∙ swapped (bytes_eq q a) (bytes_eq q b) (Some x) (Some y) (held fs q) (λ p r. other (sym (equal q a p) ∙ equal q b r))
    ∙ ap (cond (bytes_eq q b) (Some y)) (sym (held-with_file a x fs q))
    ∙ sym (held-with_file b y (with_file a x fs) q))

-- puts after puts
pub with_files-append : (ps qs : List (List ℕ × List ℕ)) (fs : Files) → with_files (ps ++ qs) fs ≡ with_files qs (with_files ps fs)
with_files-append [] qs fs = refl
with_files-append (p ∷ ps) qs fs = with_files-append ps qs (with_file p.0 p.1 fs)

-- a name that is not among the puts has what it had
pub held-with_files-other : (ps : List (List ℕ × List ℕ)) (fs : Files) (q : List ℕ) → AllByRecursion (λ p. q ≢ p.0) ps → held (with_files ps fs) q ≡ held fs q
held-with_files-other [] fs q others = refl
held-with_files-other (p ∷ ps) fs q others = held-with_files-other ps (with_file p.0 p.1 fs) q others.1 ∙ held-with_file-other p.0 p.1 fs q others.0
