-- the frames of a journal's lines
use Rattle.std.specs.Prelude.{List, map}
use Rattle.journal.specs.declared.entry.Entry.{Entry}
use Rattle.journal.specs.Lines.{Line, lines}
use Rattle.dev_core.specs.Subject.{SubjectSeen}
use Rattle.dev_core.specs.Jobs.{FrameSeen}

-- the frame of a line
abbrev pub line_frame : SubjectSeen → Line → FrameSeen
line_frame s l = record { subject = s; name = l.job; moment = l.moment }

-- one frame for each line
abbrev pub frames_of : SubjectSeen → List Entry → List FrameSeen
frames_of s es = map (line_frame s) (lines s.script es)
