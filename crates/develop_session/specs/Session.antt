-- what `session` makes of its files
use Rattle.std.specs.Prelude.{◌≡◌, ℕ, List, length, Option, IfSome}
use Rattle.outside.specs.Shelf.{Files}
use Rattle.journal.specs.Lines.{Line}
use Rattle.journal.specs.Good.{HaveNames, Good}
use Rattle.dev_core.specs.Subject.{SubjectSeen}
use Rattle.publish.specs.declared.put_end.PutEnd.{PutEnd}
use Rattle.publish.specs.Files.{files, ArePut, AreCutShort}
use Rattle.develop_session.specs.Subject.{HasSubject}
use Rattle.develop_session.specs.Words.{Session}

-- Script and source stood there, and these are good lines of their subject, whose names differ.
pub record HasLines (c : Session) (old : Option Files) (s : SubjectSeen) (lines : List Line) : Type 0 where
  pub stands : IfSome old (λ fs. HasSubject c.script c.source fs s)
  pub good : Good s.script lines
  pub names : HaveNames lines

-- A file for each of that many good lines was put in their order, and last the manifest that lists them, and nothing else.
pub record IsHeld (c : Session) (old new : Option Files) (count : ℕ) : Type 0 where
  pub subject : SubjectSeen
  pub lines : List Line
  pub are_lines : HasLines c old subject lines
  pub counted : count ≡ length lines
  pub put : ArePut (files subject lines) old new

-- the same, but that the puts were cut short
pub record IsCutOff (c : Session) (rose : List ℕ → Type 0) (old new : Option Files) (why : PutEnd) : Type 0 where
  pub subject : SubjectSeen
  pub lines : List Line
  pub are_lines : HasLines c old subject lines
  pub puts : AreCutShort (files subject lines) rose old new why
