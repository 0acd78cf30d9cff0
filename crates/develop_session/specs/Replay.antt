-- what `stepped` makes of its files
use Rattle.std.specs.Prelude.{◌≡◌, ℕ, List, length, Option, Some, IfSome}
use Rattle.outside.specs.Shelf.{Files}
use Rattle.journal.specs.Desk.{start, desk_of, is_complete}
use Rattle.journal.specs.Lines.{Line, lines}
use Rattle.dev_core.specs.Subject.{SubjectSeen}
use Rattle.events.specs.declared.event.Event.{Event}
use Rattle.stepped.specs.Outcome.{OutcomeSeen, start_of, run, IsRefused}
use Rattle.publish.specs.declared.put_end.PutEnd.{PutEnd}
use Rattle.publish.specs.Files.{Put, files, ArePut, AreCutShort}
use Rattle.develop_session.specs.Files.{HasEvents}
use Rattle.develop_session.specs.Subject.{HasSubject}
use Rattle.develop_session.specs.declared.tally.Tally.{Tally}
use Rattle.develop_session.specs.Words.{Replay}

-- subject and events stand there
pub record HasReplay (c : Replay) (s : SubjectSeen) (events : List Event) (fs : Files) : Type 0 where
  pub subject_stands : HasSubject c.script c.source fs s
  pub events_stand : HasEvents c.events fs events

-- all events may happen, each after those before it, and this is what they leave
abbrev pub Leave : SubjectSeen → List Event → OutcomeSeen → Type 0
Leave s events o = run (start_of s) events ≡ Some o

-- the lines of the journal that the events left
abbrev pub lines_of : SubjectSeen → OutcomeSeen → List Line
lines_of s o = lines s.script o.core.journal

-- a file for each line of that journal, and last the manifest
abbrev pub files_of : SubjectSeen → OutcomeSeen → List Put
files_of s o = files s (lines_of s o)

-- the numbers of the events and of the lines that they left, and whether all was done
pub record IsTally (s : SubjectSeen) (events : List Event) (o : OutcomeSeen) (t : Tally) : Type 0 where
  pub events_are : t.events ≡ length events
  pub lines_are : t.lines ≡ length (lines_of s o)
  pub all_done : t.complete ≡ is_complete s.script (desk_of start o.core.journal)

-- Script, source and events stood there, the events left this outcome, and the files of its journal were put in its order,
-- and nothing else.
pub record IsReplayed (c : Replay) (old new : Option Files) (t : Tally) : Type 0 where
  pub subject : SubjectSeen
  pub events : List Event
  pub outcome : OutcomeSeen
  pub stands : IfSome old (HasReplay c subject events)
  pub left : Leave subject events outcome
  pub tally : IsTally subject events outcome t
  pub put : ArePut (files_of subject outcome) old new

-- the same, but that the puts were cut short
pub record IsCutShort (c : Replay) (rose : List ℕ → Type 0) (old new : Option Files) (why : PutEnd) : Type 0 where
  pub subject : SubjectSeen
  pub events : List Event
  pub outcome : OutcomeSeen
  pub stands : IfSome old (HasReplay c subject events)
  pub left : Leave subject events outcome
  pub puts : AreCutShort (files_of subject outcome) rose old new why

-- the event in this place is the first that may not happen
pub record HasRefusedEvent (c : Replay) (place : ℕ) (old : Option Files) : Type 0 where
  pub subject : SubjectSeen
  pub events : List Event
  pub stands : IfSome old (HasReplay c subject events)
  pub before : OutcomeSeen
  pub refused : IsRefused (start_of subject) events place before
