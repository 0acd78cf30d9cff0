-- the subject that stands under two names
use Rattle.std.specs.Prelude.{ℕ, List}
use Rattle.px.specs.Cut.{picture_of}
use Rattle.outside.specs.Shelf.{Files}
use Rattle.dev_core.specs.Subject.{SubjectSeen}
use Rattle.develop_session.specs.Files.{HasScript, HasSource}

-- script and source stand there, and this is their subject
pub record HasSubject (script source : List ℕ) (fs : Files) (s : SubjectSeen) : Type 0 where
  pub script_stands : HasScript script fs s.script
  pub source_stands : HasSource source s.script.settings.cfa fs (picture_of s.source)

abbrev pub HasSomeSubject : List ℕ → List ℕ → Files → Type 0
HasSomeSubject script source fs = (s : SubjectSeen) × HasSubject script source fs s
