-- each answer of `stepped` with its cause, and what stands and was said afterwards
use Rattle.std.specs.Prelude.{◌≡◌, ◌⊎◌, ℕ, List, Option, IfSome}
use Rattle.outside.specs.Shelf.{Files}
use Rattle.outside.specs.Said.{Says, SaysInPart}
use Rattle.events.specs.declared.fault.EventReason.TheVariants.{NotAllowed}
use Rattle.publish.specs.declared.put_end.PutEnd.TheVariants as put_end
use Rattle.develop_session.specs.declared.status.Status.{Status}
use Rattle.develop_session.specs.declared.status.Status.TheVariants as status
use Rattle.develop_session.specs.Words.{Replay}
use Rattle.develop_session.specs.declared.tally.Tally.{Tally}
use Rattle.develop_session.specs.Texts.{replayed_text, refusal_text}
use Rattle.develop_session.specs.Files.{HasBadEvents}
use Rattle.develop_session.specs.Subject.{HasSomeSubject}
use Rattle.develop_session.specs.Replay.{HasRefusedEvent, IsReplayed, IsCutShort}
use Rattle.develop_session.specs.Failures.{InputFails, Tells}

-- The run was refused. The two predicates say of a name that its count of faults rose in this call.
abbrev pub Declines : Replay → Option Files → Option Files → (List ℕ → Type 0) → (List ℕ → Type 0) → Status → Type 0
Declines c old new read_rose put_rose status.OutOfMemory = (new ≡ old) ⊎ IsCutShort c put_rose old new put_end.Memory
Declines c old new read_rose put_rose (status.ScriptRefused step reason) = (new ≡ old) × InputFails c.script c.source old read_rose (status.ScriptRefused step reason)
Declines c old new read_rose put_rose (status.SourceRefused fault) = (new ≡ old) × InputFails c.script c.source old read_rose (status.SourceRefused fault)
Declines c old new read_rose put_rose (status.EventsRefused place NotAllowed) = (new ≡ old) × HasRefusedEvent c place old
Declines c old new read_rose put_rose (status.EventsRefused place reason) =
    (new ≡ old) × IfSome old (λ fs. HasSomeSubject c.script c.source fs × HasBadEvents c.events (record { place = place; reason = reason }) fs)
Declines c old new read_rose put_rose (status.ShelfFault name) =
    ((new ≡ old) × InputFails c.script c.source old read_rose (status.ShelfFault name))
    ⊎ (((new ≡ old) × (name ≡ c.events) × read_rose name × IfSome old (HasSomeSubject c.script c.source))
    ⊎ IsCutShort c put_rose old new (put_end.Fault name))
Declines c old new read_rose put_rose _ = ⊥

-- Each answer of `stepped` with its cause. The counts of faults are those of this call.
abbrev pub Replies : Replay → Option Files → Option Files → (List ℕ → Type 0) → (List ℕ → Type 0) → Type 0 → Option (List ℕ) → Option (List ℕ) → Status → Type 0
Replies c old new read_rose put_rose said_rose was is status.Ok = (t : Tally) × IsReplayed c old new t × Says (replayed_text t) was is
Replies c old new read_rose put_rose said_rose was is status.SaidFault = (t : Tally) × IsReplayed c old new t × said_rose × SaysInPart (replayed_text t) was is
Replies c old new read_rose put_rose said_rose was is status.OutOfMemory =
    (Declines c old new read_rose put_rose status.OutOfMemory × Tells (refusal_text status.OutOfMemory) said_rose was is)
    ⊎ ((t : Tally) × IsReplayed c old new t × (is ≡ was))
Replies c old new read_rose put_rose said_rose was is status.Usage = ⊥
Replies c old new read_rose put_rose said_rose was is (status.ScriptRefused step reason) =
    Declines c old new read_rose put_rose (status.ScriptRefused step reason) × Tells (refusal_text (status.ScriptRefused step reason)) said_rose was is
Replies c old new read_rose put_rose said_rose was is (status.SourceRefused fault) =
    Declines c old new read_rose put_rose (status.SourceRefused fault) × Tells (refusal_text (status.SourceRefused fault)) said_rose was is
Replies c old new read_rose put_rose said_rose was is (status.EventsRefused place reason) =
    Declines c old new read_rose put_rose (status.EventsRefused place reason) × Tells (refusal_text (status.EventsRefused place reason)) said_rose was is
Replies c old new read_rose put_rose said_rose was is (status.ShelfFault name) =
    Declines c old new read_rose put_rose (status.ShelfFault name) × Tells (refusal_text (status.ShelfFault name)) said_rose was is
