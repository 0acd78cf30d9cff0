-- What a shelf holds: bytes under names. What a read gives of it, and what a put leaves.
use Rattle.std.specs.Prelude.{◌≡◌, ◌⊎◌, ℕ, ◌<◌, ◌≤◌, List, [], ◌∷◌, length, take, drop, Option, Some}
use Rattle.std.specs.Option.{option_map}
use Rattle.std.specs.Cmp.Lexicographic.{slice_cmp}
use Rattle.std.specs.Ordering.{nat_cmp}
use Rattle.std.specs.Coded.{Coded, coded_ℕ, coded_list}
use Rattle.std.specs.FinMap as map

-- a map from names to bytes
abbrev pub Files : Type 0
Files = map.FinMap (slice_cmp nat_cmp) (List ℕ)

-- a code of such a map, as a model's value needs it
abbrev pub files_code : Coded Files
files_code = map.code (coded_list coded_ℕ) (coded_list coded_ℕ)

-- what stands under a name
abbrev pub held : Files → List ℕ → Option (List ℕ)
held fs name = map.get fs name

-- the same files, but for these bytes under this name
abbrev pub with_file : List ℕ → List ℕ → Files → Files
with_file name bytes fs = map.insert fs name bytes

-- The file stands there, and the front of buf has its n bytes from a place on. No byte is the end, where any was asked for.
pub record ReadsAt (file : Option (List ℕ)) (at n : ℕ) (buf : List ℕ) : Type 0 where
  pub content : List ℕ
  pub stands : file ≡ Some content
  pub bytes : take n buf ≡ take n (drop at content)
  pub ends : n ≡ 0 → 0 < length buf → length content ≤ at

-- the new bytes stand under the name, and nothing else changed
abbrev pub Puts : List ℕ → List ℕ → Option Files → Option Files → Type 0
Puts name bytes old new = new ≡ option_map (with_file name bytes) old

-- nothing changed, or a prefix of the new bytes stands under the name and nothing else changed
abbrev pub PutsInPart : List ℕ → List ℕ → Option Files → Option Files → Type 0
PutsInPart name bytes old new = (new ≡ old) ⊎ ((k : ℕ) × Puts name (take k bytes) old new)

-- the files after these puts, one after the other
abbrev pub with_files : List (List ℕ × List ℕ) → Files → Files
with_files [] fs = fs
with_files (p ∷ ps) fs = with_files ps (with_file p.0 p.1 fs)
