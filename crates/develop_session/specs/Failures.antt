-- the answer of each part of a command with its cause
use Rattle.std.specs.Prelude.{◌≡◌, ◌⊎◌, ℕ, List, Option, IfSome}
use Rattle.px.specs.declared.kind.Cfa.{Cfa}
use Rattle.outside.specs.Shelf.{Files, PutsInPart}
use Rattle.outside.specs.Said.{Says, SaysInPart}
use Rattle.outside.specs.declared.failed.Failed.{Failed}
use Rattle.outside.specs.declared.failed.Failed.TheVariants as failed
use Rattle.dev_core.specs.Subject.{SubjectSeen}
use Rattle.events.specs.declared.event.Event.{Event}
use Rattle.events.specs.declared.fault.EventReason.TheVariants.{NotAllowed}
use Rattle.stepped.specs.Outcome.{OutcomeSeen, start_of, IsRefused}
use Rattle.publish.specs.declared.put_end.PutEnd.{PutEnd}
use Rattle.publish.specs.declared.put_end.PutEnd.TheVariants as put_end
use Rattle.develop_session.specs.declared.status.Status.{Status}
use Rattle.develop_session.specs.declared.status.Status.TheVariants as status
use Rattle.develop_session.specs.Files.{HasBadScript, HasSomeScript, HasScriptThat, HasBadSource, HasBadEvents}

-- the status of a failed call of the shelf at a name: a fault tells the name
abbrev pub failed_status : List ℕ → Failed → Status
failed_status name failed.Fault = status.ShelfFault name
failed_status name failed.Memory = status.OutOfMemory

-- a file failed: want of memory, or a fault of this name whose count rose
abbrev pub FailsAt : List ℕ → Type 0 → Status → Type 0
FailsAt name rose status.OutOfMemory = Unit {0}
FailsAt name rose (status.ShelfFault at) = (at ≡ name) × rose
FailsAt name rose _ = ⊥

-- A put failed: want of memory changed nothing, and a fault of this name, whose count rose, left the old state or a prefix
-- of the bytes.
abbrev pub PutFailsAt : List ℕ → List ℕ → Type 0 → Option Files → Option Files → Status → Type 0
PutFailsAt name bytes rose old new status.OutOfMemory = new ≡ old
PutFailsAt name bytes rose old new (status.ShelfFault at) = (at ≡ name) × rose × PutsInPart name bytes old new
PutFailsAt name bytes rose old new _ = ⊥

-- the script wasn't read
abbrev pub ScriptFails : List ℕ → Option Files → Type 0 → Status → Type 0
ScriptFails name old rose (status.ScriptRefused step reason) = IfSome old (HasBadScript name (record { step = step; reason = reason }))
ScriptFails name old rose status.OutOfMemory = Unit {0}
ScriptFails name old rose (status.ShelfFault at) = (at ≡ name) × rose
ScriptFails name old rose _ = ⊥

-- the source wasn't read
abbrev pub SourceFails : List ℕ → Option Cfa → Option Files → Type 0 → Status → Type 0
SourceFails name cfa old rose (status.SourceRefused fault) = IfSome old (HasBadSource name cfa fault)
SourceFails name cfa old rose status.OutOfMemory = Unit {0}
SourceFails name cfa old rose (status.ShelfFault at) = (at ≡ name) × rose
SourceFails name cfa old rose _ = ⊥

-- The script or the source wasn't read: the file is none, with its first fault, or reading it failed. The source is read
-- beside a script that stands there, by that one's colour filter array.
abbrev pub InputFails : List ℕ → List ℕ → Option Files → (List ℕ → Type 0) → Status → Type 0
InputFails script source old rose (status.ScriptRefused step reason) = IfSome old (HasBadScript script (record { step = step; reason = reason }))
InputFails script source old rose (status.SourceRefused fault) = IfSome old (λ fs. HasScriptThat (λ r. HasBadSource source r.settings.cfa fault fs) script fs)
InputFails script source old rose status.OutOfMemory = Unit {0}
InputFails script source old rose (status.ShelfFault name) = ((name ≡ script) × rose name) ⊎ ((name ≡ source) × rose name × IfSome old (HasSomeScript script))
InputFails script source old rose _ = ⊥

-- the events weren't read
abbrev pub EventsFail : List ℕ → Option Files → Type 0 → Status → Type 0
EventsFail name old rose (status.EventsRefused place NotAllowed) = ⊥
EventsFail name old rose (status.EventsRefused place reason) = IfSome old (HasBadEvents name (record { place = place; reason = reason }))
EventsFail name old rose status.OutOfMemory = Unit {0}
EventsFail name old rose (status.ShelfFault at) = (at ≡ name) × rose
EventsFail name old rose _ = ⊥

-- the events were cut short: one may not happen, or want of memory
abbrev pub RunFails : SubjectSeen → List Event → Status → Type 0
RunFails s events (status.EventsRefused place NotAllowed) = (before : OutcomeSeen) × IsRefused (start_of s) events place before
RunFails s events status.OutOfMemory = Unit {0}
RunFails s events _ = ⊥

-- the status of puts that were cut short
abbrev pub put_status : PutEnd → Status
put_status (put_end.Fault name) = status.ShelfFault name
put_status put_end.Memory = status.OutOfMemory

-- The line was said, or the output failed: after a fault whose count rose a front of it was said, after want of memory
-- nothing.
abbrev pub Tells : List ℕ → Type 0 → Option (List ℕ) → Option (List ℕ) → Type 0
Tells line rose old new = Says line old new ⊎ ((rose × SaysInPart line old new) ⊎ (new ≡ old))

-- what comes of saying the line of a command that did its work
abbrev pub SaysLine : List ℕ → Type 0 → Option (List ℕ) → Option (List ℕ) → Status → Type 0
SaysLine line rose was is status.Ok = Says line was is
SaysLine line rose was is status.SaidFault = rose × SaysInPart line was is
SaysLine line rose was is status.OutOfMemory = is ≡ was
SaysLine line rose was is _ = ⊥
