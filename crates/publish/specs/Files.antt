-- the files of a list of lines, and what putting them leaves
use Rattle.std.specs.Prelude.{◌≡◌, ℕ, List, [], ◌∷◌, ◌++◌, take, map, slice_get, Option, Some, option_map}
use Rattle.outside.specs.Faults.{Rose}
use Rattle.outside.specs.Shelf.{Files, with_files, PutsInPart}
use Rattle.dev_core.specs.Subject.{SubjectSeen, shown}
use Rattle.edit_steps.specs.Script.{Recipe}
use Rattle.journal.specs.declared.entry.Entry.{Entry}
use Rattle.journal.specs.Lines.{Line, lines}
use Rattle.dev_core.specs.DeskState.{DeskSeen}
use Rattle.dev_core.specs.Jobs.{FrameSeen}
use Rattle.publish.specs.declared.put_end.PutEnd.{PutEnd}
use Rattle.publish.specs.declared.put_end.PutEnd.TheVariants.{Fault, Memory}
use Rattle.publish.specs.Names.{job_file, manifest_file}
use Rattle.publish.specs.Manifest.{manifest_of}

-- bytes to be put under a name
abbrev pub Put : Type 0
Put = List ℕ × List ℕ

-- the put of a line: its file, and the bytes that its job shows at its moment
abbrev pub put_of : SubjectSeen → Line → Put
put_of s l = (job_file s.script l.job l.moment, shown s l.job l.moment)

-- a file for each line in order, and last the manifest
abbrev pub files : SubjectSeen → List Line → List Put
files s ls = map (put_of s) ls ++ (manifest_file, manifest_of s.script ls) ∷ []

-- the put of a frame
abbrev pub frame_put : Recipe → FrameSeen → Put
frame_put script f = (job_file script f.name f.moment, shown f.subject f.name f.moment)

-- the put of a journal's manifest
abbrev pub manifest_put : Recipe → List Entry → Put
manifest_put script es = (manifest_file, manifest_of script (lines script es))

-- the files of a desk's journal
abbrev pub desk_files : DeskSeen → List Put
desk_files d = files d.subject (lines d.subject.script d.journal)

-- the puts were made one after the other, and nothing else
abbrev pub ArePut : List Put → Option Files → Option Files → Type 0
ArePut puts old new = new ≡ option_map (with_files puts) old

-- the count of a name rose
abbrev pub RoseAt : (List ℕ → ℕ) → (List ℕ → ℕ) → List ℕ → Type 0
RoseAt before now name = Rose (before name) (now name)

-- One put failed: want of memory changed nothing, and a fault of this name, whose count rose, left the old state or a
-- prefix of the bytes.
abbrev pub PutFails : Put → (List ℕ → Type 0) → Option Files → Option Files → PutEnd → Type 0
PutFails put rose old new (Fault name) = (name ≡ put.0) × rose name × PutsInPart put.0 put.1 old new
PutFails put rose old new Memory = new ≡ old

-- The puts were cut short: those before one of them were made, and that one failed.
pub record AreCutShort (puts : List Put) (rose : List ℕ → Type 0) (old new : Option Files) (why : PutEnd) : Type 0 where
  pub done : ℕ
  pub next : Put
  pub stands : slice_get puts done ≡ Some next
  pub between : Option Files
  pub front : ArePut (take done puts) old between
  pub fails : PutFails next rose between new why
