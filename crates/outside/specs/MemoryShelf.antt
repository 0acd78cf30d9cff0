-- What contracts see of a shelf in memory, and what each call leaves.
use Rattle.std.specs.Prelude.{ℕ, ◌||◌, Bool, List, map, min, Result, Ok, Err, is_none, refl, if◌then◌else◌, string_bytes}
use Rattle.std.specs.Coded.{Coded, code_by, coded×, coded_ℕ}
use Rattle.std.specs.FinMap.{from_entries}
use Rattle.std.specs.declared.string.String.{String}
use Rattle.std.specs.declared.vec.Vec.{Vec}
use Rattle.std.specs.declared.alloc.Global.{Global}
use Rattle.outside.specs.declared.failed.Failed.{Failed}
use Rattle.outside.specs.declared.failed.Failed.TheVariants.{Fault, Memory}
use Rattle.outside.specs.Shelf.{Files, files_code, held, with_file}
use Rattle.outside.specs.Calls.{Calls, calls_code, next_fails, after_call, after_fault}

-- the files, how many bytes a read gives at most, and the calls of both kinds
pub record MemoryFiles : Type 0 where
  pub files : Files
  pub chunk : ℕ
  pub reads : Calls
  pub puts : Calls

abbrev pub memory_files_code : Coded MemoryFiles
memory_files_code =
    code_by (Files × (ℕ × (Calls × Calls))) (coded× files_code (coded× coded_ℕ (coded× calls_code calls_code))) (λ s. (s.files, (s.chunk, (s.reads, s.puts)))) (λ p. record { files = p.0; chunk = p.1.0; reads = p.1.1.0; puts = p.1.1.1 }) (λ _. refl)

-- a name and its bytes, as the map of a shelf keeps them
abbrev pub file_of : String Global × Vec ℕ Global → List ℕ × List ℕ
file_of e = (string_bytes e.0, e.1.items)

-- the files that are kept so
abbrev pub files_of : List (String Global × Vec ℕ Global) → Files
files_of es = from_entries (map file_of es)

-- whether the next read is a fault: by its number, or since the name is missing
abbrev pub read_fails : MemoryFiles → List ℕ → Bool
read_fails s name = next_fails s.reads || is_none (held s.files name)

-- how many bytes a read gives: the least of the chunk, the buffer and the rest
abbrev pub read_len : ℕ → ℕ → ℕ → ℕ
read_len chunk room rest = min chunk (min room rest)

-- what a read leaves
abbrev pub after_read : MemoryFiles → List ℕ → MemoryFiles
after_read s name = record s { reads = if read_fails s name then after_fault s.reads else after_call s.reads }

-- what a put leaves
abbrev pub after_put : List ℕ → List ℕ → Result (Unit {0}) Failed → MemoryFiles → MemoryFiles
after_put name bytes (Ok _) s = record s { files = with_file name bytes s.files; puts = after_call s.puts }
after_put name bytes (Err Fault) s = record s { puts = after_fault s.puts }
after_put name bytes (Err Memory) s = record s { puts = after_call s.puts }
