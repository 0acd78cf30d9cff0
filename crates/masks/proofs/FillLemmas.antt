-- values filled one after another
use Rattle.std.proofs.Common.{◌≡◌, ℕ, ◌+◌, ◌<◌, ◌≤◌, List, length, set, ◌∙◌, ⊎_elim, get_or-set_other, get_or-set_same, arith}
use Rattle.std.proofs.lemmas.Bool.{cases_lt}
use Rattle.masks.specs.Lines.{IsFilled, IsFilledFrom}

-- one value more
pub filled_more : (f : ℕ → ℕ) (from k : ℕ) (old row : List ℕ) (v : ℕ) → k < length row → IsFilledFrom f from k old row → from ≤ k → v ≡ f k → IsFilledFrom f from (k + 1) old (set row k v)
filled_more f from k old row v fits was low is = record {
  here = λ i above below. ⊎_elim
      (λ (earlier : i < k). get_or-set_other row k i v 0 (omega arith) ∙ was.here i above earlier)
      (λ (now : k ≤ i). let e : i ≡ k = omega arith in rw e (get_or-set_same row k v 0 fits ∙ is))
      (cases_lt i k);
  before = λ i h. get_or-set_other row k i v 0 (omega arith) ∙ was.before i h;
}

-- some values more, behind those that are filled
pub filled_further : (f : ℕ → ℕ) (from to : ℕ) (old new : List ℕ) → IsFilled f from old → IsFilledFrom f from to old new → IsFilled f to new
filled_further f from to old new was more = record {
  same = λ k below. ⊎_elim
      (λ (earlier : k < from). more.before k earlier ∙ was.same k earlier)
      (λ (now : from ≤ k). more.here k now below)
      (cases_lt k from);
}

pub filled_one : (f : ℕ → ℕ) (k : ℕ) (row : List ℕ) (v : ℕ) → k < length row → IsFilled f k row → v ≡ f k → IsFilled f (k + 1) (set row k v)
filled_one f k row v fits was is = record {
  same = λ i below. ⊎_elim
      (λ (earlier : i < k). get_or-set_other row k i v 0 (omega arith) ∙ was.same i earlier)
      (λ (now : k ≤ i). let e : i ≡ k = omega arith in rw e (get_or-set_same row k v 0 fits ∙ is))
      (cases_lt i k);
}
