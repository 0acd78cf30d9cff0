-- What an output was told: one list of bytes, to which each say adds.
use Rattle.std.specs.Prelude.{◌≡◌, ℕ, List, ◌++◌, take, Option}
use Rattle.std.specs.Option.{option_map}

-- the bytes stand behind what was said before
abbrev pub Says : List ℕ → Option (List ℕ) → Option (List ℕ) → Type 0
Says bytes old new = new ≡ option_map (λ said. said ++ bytes) old

-- a prefix of the bytes stands behind what was said before
abbrev pub SaysInPart : List ℕ → Option (List ℕ) → Option (List ℕ) → Type 0
SaysInPart bytes old new = (k : ℕ) × Says (take k bytes) old new
