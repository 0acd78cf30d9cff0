-- What a call of the machine did, said of the file that it opened. What a real file holds is not known.
use Rattle.std.specs.Prelude.{◌≡◌, ℕ, ◌<◌, List, length, take, Option, Some, IfSome}
use Rattle.std.specs.Io.KnownBytes.{Appends, Consumes, IsAtEnd}

-- a file took just these bytes
abbrev pub IsWritten : {F : Type 0} → (F → Option (List ℕ)) → List ℕ → Type 0
IsWritten {F = F} contents bytes = (before : F) × (after : F) × Appends (contents before) (contents after) bytes

-- a file stood at this place, where its place is known, and one read gave the front of buf; no byte is its end
pub record IsRead {F : Type 0} (position : F → Option ℕ) (remaining : F → Option (List ℕ)) (at n : ℕ) (buf : List ℕ) : Type 0 where
  pub opened : F
  pub placed : F
  pub after : F
  pub starts : IfSome (position opened) (λ _. position placed ≡ Some at)
  pub bytes : Consumes (remaining placed) (remaining after) (take n buf)
  pub ends : n ≡ 0 → 0 < length buf → IsAtEnd (remaining after)
