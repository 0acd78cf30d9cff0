-- Counts of faults. A call to the outside that answers a fault shows its cause by a count that rose.
use Rattle.std.specs.Prelude.{ℕ, ◌+◌, ◌-◌, ◌^◌, ◌≤◌, List, min, Result, is_err, if◌then◌else◌}

-- the count after one more fault; at the greatest u64 it stands
abbrev pub one_more : ℕ → ℕ
one_more count = min (count + 1) (2 ^ 64 - 1)

-- a count is above what it was, or stands at the greatest u64 or above
abbrev pub Rose : ℕ → ℕ → Type 0
Rose before now = one_more before ≤ now

-- the count of no name is below what it was
abbrev pub NoneFalls : (List ℕ → ℕ) → (List ℕ → ℕ) → Type 0
NoneFalls before now = (name : List ℕ) → before name ≤ now name

-- a count that rises at each refusal
abbrev pub counted : {T E : Type 0} → Result T E → ℕ → ℕ
counted result count = if is_err result then one_more count else count
