-- each answer of `develop` with its cause, and what stands and was said afterwards
use Rattle.std.specs.Prelude.{◌≡◌, ◌⊎◌, ℕ, List, Option, Some, None}
use Rattle.outside.specs.Shelf.{Files}
use Rattle.outside.specs.Said.{Says, SaysInPart}
use Rattle.develop_session.specs.declared.status.Status.{Status}
use Rattle.develop_session.specs.declared.status.Status.TheVariants as status
use Rattle.develop_session.specs.Words.{Command}
use Rattle.develop_session.specs.Texts.{developed_text, refusal_text}
use Rattle.develop_session.specs.Develop.{IsDeveloped, IsPutInPart}
use Rattle.develop_session.specs.Failures.{InputFails, Tells}

-- Where the shelf tells its files, the picture of those sides was developed; where it doesn't, it still tells none.
abbrev pub Develops : Command → Option Files → Option Files → ℕ → ℕ → Type 0
Develops c None new w h = new ≡ None
Develops c (Some fs) new w h = IsDeveloped c fs w h new

-- what a fault of the put leaves
abbrev pub PutFails : Command → Option Files → Option Files → Type 0
PutFails c None new = new ≡ None
PutFails c (Some fs) new = IsPutInPart c fs new

-- The run was refused. The two predicates say of a name that its count of faults rose in this call.
abbrev pub Refuses : Command → Option Files → Option Files → (List ℕ → Type 0) → (List ℕ → Type 0) → Status → Type 0
Refuses c old new read_rose put_rose status.OutOfMemory = new ≡ old
Refuses c old new read_rose put_rose (status.ScriptRefused step reason) = (new ≡ old) × InputFails c.script c.source old read_rose (status.ScriptRefused step reason)
Refuses c old new read_rose put_rose (status.SourceRefused fault) = (new ≡ old) × InputFails c.script c.source old read_rose (status.SourceRefused fault)
Refuses c old new read_rose put_rose (status.ShelfFault name) =
    ((new ≡ old) × InputFails c.script c.source old read_rose (status.ShelfFault name))
    ⊎ ((name ≡ c.out) × put_rose name × PutFails c old new)
Refuses c old new read_rose put_rose _ = ⊥

-- Each answer of `develop` with its cause. The counts of faults are those of this call.
abbrev pub Answers : Command → Option Files → Option Files → (List ℕ → Type 0) → (List ℕ → Type 0) → Type 0 → Option (List ℕ) → Option (List ℕ) → Status → Type 0
Answers c old new read_rose put_rose said_rose was is status.Ok = (w h : ℕ) × Develops c old new w h × Says (developed_text w h) was is
Answers c old new read_rose put_rose said_rose was is status.SaidFault = (w h : ℕ) × Develops c old new w h × said_rose × SaysInPart (developed_text w h) was is
Answers c old new read_rose put_rose said_rose was is status.OutOfMemory =
    (Refuses c old new read_rose put_rose status.OutOfMemory × Tells (refusal_text status.OutOfMemory) said_rose was is)
    ⊎ ((w h : ℕ) × Develops c old new w h × (is ≡ was))
Answers c old new read_rose put_rose said_rose was is status.Usage = ⊥
Answers c old new read_rose put_rose said_rose was is (status.EventsRefused place reason) = ⊥
Answers c old new read_rose put_rose said_rose was is (status.ScriptRefused step reason) =
    Refuses c old new read_rose put_rose (status.ScriptRefused step reason) × Tells (refusal_text (status.ScriptRefused step reason)) said_rose was is
Answers c old new read_rose put_rose said_rose was is (status.SourceRefused fault) =
    Refuses c old new read_rose put_rose (status.SourceRefused fault) × Tells (refusal_text (status.SourceRefused fault)) said_rose was is
Answers c old new read_rose put_rose said_rose was is (status.ShelfFault name) =
    Refuses c old new read_rose put_rose (status.ShelfFault name) × Tells (refusal_text (status.ShelfFault name)) said_rose was is
