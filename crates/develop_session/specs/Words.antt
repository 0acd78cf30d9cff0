-- the words of a command
use Rattle.std.specs.Prelude.{ℕ, ◌+◌, ◌-◌, ◌*◌, nat_le, Bool, ◌&&◌, List, [], ◌∷◌, length, Option, Some, None, codes, bytes_eq, map, string_bytes, String, if◌then◌else◌}
use Rattle.std.specs.declared.alloc.Global.{Global}

-- `develop` with its three names
pub record Command : Type 0 where
  pub script : List ℕ
  pub source : List ℕ
  pub out : List ℕ

-- `stepped` with its three names
pub record Replay : Type 0 where
  pub script : List ℕ
  pub source : List ℕ
  pub events : List ℕ

-- `session` with its two names
pub record Session : Type 0 where
  pub script : List ℕ
  pub source : List ℕ

-- the words as texts
abbrev pub texts : List (String Global) → List (List ℕ)
texts words = map string_bytes words

-- the `develop` that the words are
abbrev pub command_of : List (List ℕ) → Option Command
command_of (word ∷ script ∷ source ∷ out ∷ []) = if bytes_eq word (codes "develop") then Some (record { script = script; source = source; out = out }) else None
command_of _ = None

-- the replay that the words are
abbrev pub replay_of : List (List ℕ) → Option Replay
replay_of (word ∷ script ∷ source ∷ events ∷ []) = if bytes_eq word (codes "stepped") then Some (record { script = script; source = source; events = events }) else None
replay_of _ = None

-- the session that the words are
abbrev pub session_of : List (List ℕ) → Option Session
session_of (word ∷ script ∷ source ∷ []) = if bytes_eq word (codes "session") then Some (record { script = script; source = source }) else None
session_of _ = None

-- ---- generate

abbrev pub is_digit : ℕ → Bool
is_digit b = nat_le 48 b && nat_le b 57

-- the number that further digits make of this one
abbrev pub number_from : ℕ → List ℕ → Option ℕ
number_from n [] = Some n
number_from n (b ∷ bs) = if is_digit b then number_from (n * 10 + (b - 48)) bs else None

-- the number of 1 to 9 decimal digits
abbrev pub number_in : List ℕ → Option ℕ
number_in digits = if nat_le 1 (length digits) && nat_le (length digits) 9 then number_from 0 digits else None

-- the number of a `generate`
abbrev pub number_of : List (List ℕ) → Option ℕ
number_of (word ∷ digits ∷ []) = if bytes_eq word (codes "generate") then number_in digits else None
number_of _ = None
