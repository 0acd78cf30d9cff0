-- The front of a file, as far as a reader that goes in turns has come.
use Rattle.std.specs.Prelude.{◌≡◌, ℕ, ◌<◌, ◌≤◌, List, ◌++◌, length, take, drop, Option, Some}

-- Where any byte was read, the file stands and begins with what was read.
pub record IsFront (file : Option (List ℕ)) (front : List ℕ) : Type 0 where
  pub begins : 0 < length front → (content : List ℕ) × (file ≡ Some content) × (take (length front) content ≡ front)

-- The file stands, and n more of its bytes came behind those that were read. None is the end.
pub record IsLonger (file : Option (List ℕ)) (front : List ℕ) (n : ℕ) (longer : List ℕ) : Type 0 where
  pub content : List ℕ
  pub stands : file ≡ Some content
  pub bytes : longer ≡ front ++ take n (drop (length front) content)
  pub ends : n ≡ 0 → length content ≤ length front
