-- Numbers and draws, one behind the other.
use Rattle.std.proofs.Common.{◌≡◌, ℕ, zero, suc, ◌+◌, ◌*◌, ◌%◌, ◌<◌, ◌≤◌, List, [], ◌∷◌, ◌++◌, length, refl, sym, ap, ◌∙◌, add-one, add-zero, add-suc, arith}
use Rattle.std.specs.Prelude.{slice_index}
use Rattle.std.proofs.lemmas.List.{length_push}
use Rattle.edit_steps.specs.declared.step.Step.{Step}
use Rattle.generator.specs.Draws.{after_number, number_at, upper_half, draw}
use Rattle.generator.specs.Picture.{samples}
use Rattle.generator.specs.Script.{step_behind, step_of, item_count, has_all_exports, steps_to}

-- ---- numbers

pub number_start : (start : ℕ) → number_at start 0 ≡ start
unfolding number_at
number_start start = refl

pub number_more : (start i : ℕ) → number_at start (i + 1) ≡ after_number (number_at start i)
unfolding number_at
number_more start i = rw add-one refl

pub number_one : (g : ℕ) → number_at g 1 ≡ after_number g
unfolding number_at
number_one g = refl

pub number_two : (g : ℕ) → number_at g 2 ≡ after_number (after_number g)
unfolding number_at
number_two g = refl

pub number_three : (g : ℕ) → number_at g 3 ≡ after_number (after_number (after_number g))
unfolding number_at
number_three g = refl

-- the numbers go on from any of them
pub number_along : (start m k : ℕ) → number_at (number_at start m) k ≡ number_at start (m + k)
unfolding number_at
number_along start m zero = ap (number_at start) (sym (add-zero m))
number_along start m (suc k) = ap after_number (number_along start m k) ∙ ap (number_at start) (sym (add-suc m k))

-- ---- samples

pub samples_start : (start : ℕ) → samples start 0 ≡ []
unfolding samples
samples_start start = refl

pub samples_more : (start i : ℕ) → samples start (i + 1) ≡ samples start i ++ upper_half (after_number (number_at start i)) % 1024 ∷ []
unfolding samples number_at
samples_more start i = rw add-one refl

pub samples_count : (start n : ℕ) → length (samples start n) ≡ n
unfolding samples
samples_count start zero = refl
samples_count start (suc n) = length_push (samples start n) (draw start (suc n) % 1024) ∙ add-one (length (samples start n)) ∙ ap suc (samples_count start n)

low_push : (xs : List ℕ) (y : ℕ) → ((i : ℕ) → slice_index xs i ≤ 1048575) → y ≤ 1048575 → (i : ℕ) → slice_index (xs ++ y ∷ []) i ≤ 1048575
low_push [] y h low zero = low
low_push [] y h low (suc i) = h i
low_push (x ∷ xs) y h low zero = h zero
low_push (x ∷ xs) y h low (suc i) = low_push xs y (λ k. h (suc k)) low i

pub samples_low : (start n i : ℕ) → slice_index (samples start n) i ≤ 1048575
unfolding samples
samples_low start zero i = omega arith
samples_low start (suc n) i =
    let y = draw start (suc n) % 1024 in
    let small : y < 1024 = omega arith in
    low_push (samples start n) y (samples_low start n) (omega arith) i

-- ---- steps

pub step_along : (g i : ℕ) (before : List Step) → step_behind (number_at g (3 * i)) 0 before ≡ step_behind g i before
step_along g i before =
    ap (λ n. step_of (upper_half n) (draw (number_at g (3 * i)) 2) (item_count before) (has_all_exports before)) (number_along g (3 * i) 1)
    ∙ ap (λ n. step_of (draw g (3 * i + 1)) (upper_half n) (item_count before) (has_all_exports before)) (number_along g (3 * i) 2)

pub numbers_behind : (g i : ℕ) → number_at (number_at g (3 * i)) 3 ≡ number_at g (3 * (i + 1))
numbers_behind g i = let e : 3 * i + 3 ≡ 3 * (i + 1) = omega arith in number_along g (3 * i) 3 ∙ ap (number_at g) e

pub steps_start : (g : ℕ) → steps_to g 0 ≡ []
unfolding steps_to
steps_start g = refl

pub steps_more : (g i : ℕ) → steps_to g (i + 1) ≡ steps_to g i ++ step_behind g i (steps_to g i) ∷ []
unfolding steps_to
steps_more g i = rw add-one refl
