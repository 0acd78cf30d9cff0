-- rows of pixels, as far as they are painted
use Rattle.std.proofs.Common.{◌≡◌, ◌≢◌, ℕ, zero, suc, ◌+◌, ◌-◌, ◌*◌, ◌<◌, ◌≤◌, List, length, set, slice_index, sym, ap, ◌∙◌, ⊎_elim, arith, rules}
use Rattle.std.proofs.Common.{get_or-set_other, get_or-set_same}
use Rattle.std.proofs.Math.ListN.{length-set}
use Rattle.std.proofs.lemmas.Nat.{mul-add-lt}
use Rattle.std.proofs.Math.Nat.{mul-le-mul_left}
use Rattle.std.proofs.lemmas.Bool.{cases_lt}
use borrow.Rule.Slice.PartMut.{put_mid}
use Rattle.std.proofs.lemmas.List.{places}
use Rattle.px.specs.Painted.{IsGiven, IsRow, AreRows}

-- the row after one more pixel: it has the answer's values there, and is as before elsewhere
pub record AddsPixel (size k : ℕ) (row answer row' : List ℕ) : Type 0 where
  pub before : (i : ℕ) → i < k * size → slice_index row' i ≡ slice_index row i
  pub here : (c : ℕ) → c < size → slice_index row' (k * size + c) ≡ slice_index answer c
  pub after : (i : ℕ) → k * size + size ≤ i → slice_index row' i ≡ slice_index row i

pub three : (P : ℕ → Type 0) → P 0 → P 1 → P 2 → (c : ℕ) → c < 3 → P c
three P a b d zero h = a
three P a b d (suc zero) h = b
three P a b d (suc (suc zero)) h = d
three P a b d (suc (suc (suc n))) h = absurd (omega arith)

-- three writes, one after another, at the places of a pixel
pub adds_three : (k at : ℕ) (row answer : List ℕ) → at ≡ k * 3 → at + 3 ≤ length row
    → AddsPixel 3 k row answer (set (set (set row at (slice_index answer 0)) (at + 1) (slice_index answer 1)) (at + 2) (slice_index answer 2))
adds_three k at row answer e fits =
    let s0 = set row at (slice_index answer 0) in
    let s1 = set s0 (at + 1) (slice_index answer 1) in
    let l0 = length-set {A = ℕ} row at (slice_index answer 0) in
    let l1 = length-set {A = ℕ} s0 (at + 1) (slice_index answer 1) in
    let row' = set s1 (at + 2) (slice_index answer 2) in
    let other : (i : ℕ) → i ≢ at → i ≢ at + 1 → i ≢ at + 2 → slice_index row' i ≡ slice_index row i =
    (λ i n0 n1 n2. get_or-set_other s1 (at + 2) i _ 0 n2 ∙ (get_or-set_other s0 (at + 1) i _ 0 n1 ∙ get_or-set_other row at i _ 0 n0)) in
    record {
      before = λ i h. other i (omega arith) (omega arith) (omega arith);
      here = three (λ c. slice_index row' (k * 3 + c) ≡ slice_index answer c)
          (let i : k * 3 + 0 ≡ at = omega arith in rw i (get_or-set_other s1 (at + 2) at _ 0 (omega arith) ∙ (get_or-set_other s0 (at + 1) at _ 0 (omega arith) ∙ get_or-set_same row at _ 0 (omega arith))))
          (let i : k * 3 + 1 ≡ at + 1 = omega arith in rw i (get_or-set_other s1 (at + 2) (at + 1) _ 0 (omega arith) ∙ get_or-set_same s0 (at + 1) _ 0 (omega arith)))
          (let i : k * 3 + 2 ≡ at + 2 = omega arith in rw i (get_or-set_same s1 (at + 2) _ 0 (omega arith)));
      after = λ i h. other i (omega arith) (omega arith) (omega arith);
    }

-- one write at the place of a pixel
pub adds_one : (k : ℕ) (row answer : List ℕ) → k + 1 ≤ length row → AddsPixel 1 k row answer (set row k (slice_index answer 0))
adds_one k row answer fits = record {
  before = λ i h. get_or-set_other row k i _ 0 (omega arith);
  here = λ c h. let c0 : c ≡ 0 = omega arith in rw c0 (let i : k * 1 + 0 ≡ k = omega arith in rw i (get_or-set_same row k _ 0 (omega arith)));
  after = λ i h. get_or-set_other row k i _ 0 (omega arith);
}

pub given_along : (post : List ℕ → Type 0) (size : ℕ) (f f' : ℕ → ℕ) → ((c : ℕ) → c < size → f c ≡ f' c) → IsGiven post size f → IsGiven post size f'
given_along post size f f' e r = record { answer = r.answer; given = r.given; same = λ c h. r.same c h ∙ e c h }

pub top_within : (row answer : List ℕ) (i n c : ℕ) → i ≡ n + c → slice_index row (n + c) ≡ slice_index answer c → slice_index answer c ≤ 1048575 → slice_index row i ≤ 1048575
top_within row answer i n c e same h = rw (e, same) h

pub row_more : (post : ℕ → ℕ → List ℕ → Type 0) (x y size k : ℕ) (row answer row' : List ℕ)
    → IsRow post x y size k row → post (x + k) y answer → ((i : ℕ) → slice_index answer i ≤ 1048575) → AddsPixel size k row answer row'
    → IsRow post x y size (k + 1) row'
row_more post x y size k row answer row' was given top adds = record {
  pixels = λ j h. ⊎_elim
      (λ below. given_along (post (x + j) y) size _ _ (λ c d. sym (adds.before (j * size + c) (omega (arith, mul-add-lt j size c k below d)))) (was.pixels j below))
      (λ past. let j_is : j ≡ k = omega arith in rw j_is (record { answer = answer; given = given; same = λ c d. sym (adds.here c d) }))
      (cases_lt j k);
  top = λ i. ⊎_elim
      (λ below. rw (adds.before i below) (was.top i))
      (λ past. ⊎_elim
      (λ within. top_within row' answer i (k * size) (i - k * size) (omega arith) (adds.here (i - k * size) (omega arith)) (top (i - k * size)))
      (λ beyond. rw (adds.after i beyond) (was.top i))
      (cases_lt i (k * size + size)))
      (cases_lt i (k * size));
}

-- a part of a list that was written as a whole
pub mid_before : (a k : ℕ) (xs ys : List ℕ) (i : ℕ) → i < a → a ≤ length xs → slice_index (put_mid a k xs ys) i ≡ slice_index xs i
mid_before a k xs ys i h l = search (rules, places)

pub mid_within : (a k : ℕ) (xs ys : List ℕ) (i : ℕ) → i < length ys → a ≤ length xs → slice_index (put_mid a k xs ys) (a + i) ≡ slice_index ys i
mid_within a k xs ys i h l = search (rules, places)

pub mid_after : (a k : ℕ) (xs ys : List ℕ) (i : ℕ) → a + k ≤ i → a ≤ length xs → length ys ≡ k → slice_index (put_mid a k xs ys) i ≡ slice_index xs i
mid_after a k xs ys i h l e = search (rules, places)

-- the place of a value: column k of row j, channel c, in rows of w pixels
pub place_in_row : (j w k size c : ℕ) → (j * w + k) * size + c ≡ j * (w * size) + (k * size + c)
place_in_row j w k size c = omega arith

-- a row of w pixels lies within h of them
pub row_fits : (j h w size : ℕ) → j < h → j * (w * size) + w * size ≤ h * w * size
row_fits j h w size below = let up : j + 1 ≤ h = omega arith in omega (arith, mul-le-mul_left (w * size) up)

-- a pixel lies within a row of w
pub value_fits : (p w size c : ℕ) → p < w → c < size → p * size + c < w * size
value_fits p w size c below d = omega (arith, mul-add-lt p size c w below d)

-- a further row of w pixels
pub rows_more : (post : ℕ → ℕ → List ℕ → Type 0) (x y w size j at k : ℕ) (values row : List ℕ)
    → AreRows post x y w size j values → IsRow post x (y + j) size w row
    → at ≡ j * (w * size) → k ≡ w * size → length row ≡ w * size → at + k ≤ length values
    → AreRows post x y w size (j + 1) (put_mid at k values row)
rows_more post x y w size j at k values row was new at_is k_is len fits =
    let start : at ≤ length values = omega arith in
    let whole : length row ≡ k = omega arith in
    record {
      pixels = λ i p below p_lt. ⊎_elim
          (λ (earlier : i < j). given_along (post (x + p) (y + i)) size _ _
          (λ c d. sym (mid_before at k values row ((i * w + p) * size + c)
          (rw (place_in_row i w p size c, at_is) (omega (arith, value_fits p w size c p_lt d, row_fits i j w size earlier))) start)) (was.pixels i p earlier p_lt))
          (λ (here : j ≤ i). let i_is : i ≡ j = omega arith in rw i_is (given_along (post (x + p) (y + j)) size
          (λ c. slice_index row (p * size + c)) (λ c. slice_index (put_mid at k values row) ((j * w + p) * size + c))
          (λ c d. let e : (j * w + p) * size + c ≡ at + (p * size + c) = place_in_row j w p size c ∙ ap (λ n. n + (p * size + c)) (sym at_is) in
          rw e (sym (mid_within at k values row (p * size + c) (rw len (value_fits p w size c p_lt d)) start))) (new.pixels p p_lt)))
          (cases_lt i j);
      top = λ i. ⊎_elim
          (λ (before : i < at). rw (mid_before at k values row i before start) (was.top i))
          (λ (past : at ≤ i). ⊎_elim
          (λ (within : i < at + k). top_within (put_mid at k values row) row i at (i - at) (omega arith) (mid_within at k values row (i - at) (omega arith) start) (new.top (i - at)))
          (λ (after : at + k ≤ i). rw (mid_after at k values row i after start whole) (was.top i))
          (cases_lt i (at + k)))
          (cases_lt i at);
    }

-- n pixels of a row lie within h rows of w
pub run_fits : (j h k n w size : ℕ) → j < h → k + n ≤ w → (j * w + k) * size + n * size ≤ (h * w) * size
run_fits j h k n w size below right = omega (arith, row_fits j h w size below, mul-le-mul_left size right)
