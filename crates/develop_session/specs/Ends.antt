-- each answer of `session` with its cause, and what stands and was said afterwards
use Rattle.std.specs.Prelude.{◌≡◌, ◌⊎◌, ℕ, List, Option}
use Rattle.outside.specs.Shelf.{Files}
use Rattle.outside.specs.Said.{Says, SaysInPart}
use Rattle.publish.specs.declared.put_end.PutEnd.TheVariants as put_end
use Rattle.develop_session.specs.declared.status.Status.{Status}
use Rattle.develop_session.specs.declared.status.Status.TheVariants as status
use Rattle.develop_session.specs.Words.{Session}
use Rattle.develop_session.specs.Texts.{session_text, refusal_text}
use Rattle.develop_session.specs.Session.{IsHeld, IsCutOff}
use Rattle.develop_session.specs.Failures.{InputFails, Tells}

-- The session was refused. The two predicates say of a name that its count of faults rose in this call.
abbrev pub Stops : Session → Option Files → Option Files → (List ℕ → Type 0) → (List ℕ → Type 0) → Status → Type 0
Stops c old new read_rose put_rose status.OutOfMemory = (new ≡ old) ⊎ IsCutOff c put_rose old new put_end.Memory
Stops c old new read_rose put_rose (status.ScriptRefused step reason) = (new ≡ old) × InputFails c.script c.source old read_rose (status.ScriptRefused step reason)
Stops c old new read_rose put_rose (status.SourceRefused fault) = (new ≡ old) × InputFails c.script c.source old read_rose (status.SourceRefused fault)
Stops c old new read_rose put_rose (status.ShelfFault name) =
    ((new ≡ old) × InputFails c.script c.source old read_rose (status.ShelfFault name))
    ⊎ IsCutOff c put_rose old new (put_end.Fault name)
Stops c old new read_rose put_rose _ = ⊥

-- Each answer of `session` with its cause. The counts of faults are those of this call.
abbrev pub Ends : Session → Option Files → Option Files → (List ℕ → Type 0) → (List ℕ → Type 0) → Type 0 → Option (List ℕ) → Option (List ℕ) → Status → Type 0
Ends c old new read_rose put_rose said_rose was is status.Ok = (count : ℕ) × IsHeld c old new count × Says (session_text count) was is
Ends c old new read_rose put_rose said_rose was is status.SaidFault = (count : ℕ) × IsHeld c old new count × said_rose × SaysInPart (session_text count) was is
Ends c old new read_rose put_rose said_rose was is status.OutOfMemory =
    (Stops c old new read_rose put_rose status.OutOfMemory × Tells (refusal_text status.OutOfMemory) said_rose was is)
    ⊎ ((count : ℕ) × IsHeld c old new count × (is ≡ was))
Ends c old new read_rose put_rose said_rose was is status.Usage = ⊥
Ends c old new read_rose put_rose said_rose was is (status.EventsRefused place reason) = ⊥
Ends c old new read_rose put_rose said_rose was is (status.ScriptRefused step reason) =
    Stops c old new read_rose put_rose (status.ScriptRefused step reason) × Tells (refusal_text (status.ScriptRefused step reason)) said_rose was is
Ends c old new read_rose put_rose said_rose was is (status.SourceRefused fault) =
    Stops c old new read_rose put_rose (status.SourceRefused fault) × Tells (refusal_text (status.SourceRefused fault)) said_rose was is
Ends c old new read_rose put_rose said_rose was is (status.ShelfFault name) =
    Stops c old new read_rose put_rose (status.ShelfFault name) × Tells (refusal_text (status.ShelfFault name)) said_rose was is
