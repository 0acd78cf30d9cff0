-- rows that were painted side by side
use Rattle.std.proofs.Common.{◌≡◌, ℕ, ◌+◌, ◌*◌, ◌/◌, ◌%◌, ◌<◌, ◌≤◌, List, length, take, drop, slice_index, ◌∙◌, ⊎_elim, arith}
use Rattle.std.proofs.lemmas.List.{get_or_past}
use Rattle.std.proofs.lemmas.Bool.{cases_lt}
use Rattle.std.proofs.lemmas.List.{get_or-take, get_or-drop}
use Rattle.std.proofs.lemmas.Nat.{div_below, mod_below}
use Rattle.px.specs.Painted.{IsRow, AreRows}
use Rattle.px.proofs.RowLemmas.{given_along, value_fits, place_in_row}

-- a value of a chunk is that value of the whole
pub in_chunk : (n from : ℕ) (xs : List ℕ) (i : ℕ) → i < n → slice_index (take n (drop from xs)) i ≡ slice_index xs (from + i)
in_chunk n from xs i h = get_or-take n (drop from xs) i 0 h ∙ get_or-drop from xs i 0

-- what bounds each value bounds each value of a part
pub part_top : (xs ys : List ℕ) (from : ℕ) → ((i : ℕ) → slice_index xs i ≤ 1048575) → ((k : ℕ) → k < length ys → slice_index ys k ≡ slice_index xs (from + k)) → (i : ℕ) → slice_index ys i ≤ 1048575
part_top xs ys from top same i = ⊎_elim
    (λ (within : i < length ys). rw (same i within) (top (from + i)))
    (λ (past : length ys ≤ i). rw (get_or_past ys i 0 past) (omega arith))
    (cases_lt i (length ys))

top_at : (ys : List ℕ) (stride j o i : ℕ) → i ≡ j * stride + o → o < stride → slice_index (take stride (drop (j * stride) ys)) o ≤ 1048575 → slice_index ys i ≤ 1048575
top_at ys stride j o i e below h = rw (e, ← in_chunk stride (j * stride) ys o below) h

pub rows_of_chunks : (post : ℕ → ℕ → List ℕ → Type 0) (x y w size h stride : ℕ) (ys : List ℕ)
    → stride ≡ w * size → 0 < stride → length ys ≡ h * stride
    → ((j : ℕ) → j < h → IsRow post x (y + j) size w (take stride (drop (j * stride) ys)))
    → AreRows post x y w size h ys
rows_of_chunks post x y w size h stride ys stride_is wide len rows = record {
  pixels = λ j k below k_lt. given_along (post (x + k) (y + j)) size
      (λ c. slice_index (take stride (drop (j * stride) ys)) (k * size + c)) (λ c. slice_index ys ((j * w + k) * size + c))
      (λ c d. let e : (j * w + k) * size + c ≡ j * stride + (k * size + c) = rw stride_is (place_in_row j w k size c) in
      rw e (in_chunk stride (j * stride) ys (k * size + c) (rw stride_is (value_fits k w size c k_lt d))))
      ((rows j below).pixels k k_lt);
  top = λ i. ⊎_elim
      (λ (within : i < length ys).
      let j = i / stride in
      let o = i % stride in
      top_at ys stride j o i (omega arith) (mod_below i stride wide) ((rows j (div_below i stride h wide (omega arith))).top o))
      (λ (past : length ys ≤ i). rw (get_or_past ys i 0 past) (omega arith))
      (cases_lt i (length ys));
}
