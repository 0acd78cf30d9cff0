-- the lines that are said, and the numbers of the statuses
use Rattle.std.specs.Prelude.{ℕ, Bool, true, false, List, [], ◌++◌, codes}
use Rattle.std.specs.Fmt.{decimal}
use Rattle.pnm.specs.Texts.{kind_text}
use Rattle.edit_steps.specs.Texts as script
use Rattle.events.specs.Texts as events
use Rattle.develop_session.specs.declared.status.Status.{Status}
use Rattle.develop_session.specs.declared.status.Status.TheVariants as status
use Rattle.develop_session.specs.declared.tally.Tally.{Tally}

abbrev pub code_of : Status → ℕ
code_of status.Ok = 0
code_of status.Usage = 1
code_of (status.ScriptRefused step reason) = 2
code_of (status.SourceRefused fault) = 3
code_of (status.EventsRefused place reason) = 4
code_of (status.ShelfFault name) = 5
code_of status.SaidFault = 6
code_of status.OutOfMemory = 7

-- the written sides
abbrev pub developed_text : ℕ → ℕ → List ℕ
developed_text w h = codes "developed " ++ (decimal w ++ (codes " " ++ (decimal h ++ codes "\n")))

abbrev pub completeness : Bool → List ℕ
completeness true = codes "complete"
completeness false = codes "open"

-- the numbers of events and lines, and whether all was done
abbrev pub replayed_text : Tally → List ℕ
replayed_text t = codes "events " ++ (decimal t.events ++ (codes " lines " ++ (decimal t.lines ++ (codes " " ++ (completeness t.complete ++ codes "\n")))))

-- the number of lines
abbrev pub session_text : ℕ → List ℕ
session_text count = codes "lines " ++ (decimal count ++ codes "\n")

-- what is said of a refusal
abbrev pub refusal_text : Status → List ℕ
refusal_text status.Usage = codes "usage: devcore develop SCRIPT SOURCE OUT, stepped SCRIPT SOURCE EVENTS, session SCRIPT SOURCE, generate N\n"
refusal_text (status.ShelfFault name) = codes "shelf fault: " ++ (name ++ codes "\n")
refusal_text (status.ScriptRefused step reason) = codes "script refused at step " ++ (decimal step ++ (codes ": " ++ (script.reason_text reason ++ codes "\n")))
refusal_text (status.SourceRefused fault) = codes "source refused at byte " ++ (decimal fault.place ++ (codes ": " ++ (kind_text fault.kind ++ codes "\n")))
refusal_text (status.EventsRefused place reason) = codes "events refused at event " ++ (decimal place ++ (codes ": " ++ (events.event_reason_text reason ++ codes "\n")))
refusal_text status.OutOfMemory = codes "out of memory\n"
refusal_text status.Ok = []
refusal_text status.SaidFault = []
