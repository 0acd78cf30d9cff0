-- a valid command is refused for want of memory or a counted fault alone
use Rattle.std.specs.Prelude.{◌≡◌, ℕ, List, take, Option, Some}
use Rattle.px.specs.Picture.{Picture}
use Rattle.px.specs.declared.kind.Cfa.{Cfa}
use Rattle.pnm.specs.Pnm.{IsPicture}
use Rattle.outside.specs.Shelf.{Files, held}
use Rattle.edit_steps.specs.Script.{Recipe}
use Rattle.dev_core.specs.Subject.{SubjectSeen}
use Rattle.events.specs.declared.event.Event.{Event}
use Rattle.stepped.specs.Outcome.{OutcomeSeen}
use Rattle.develop_session.specs.declared.status.Status.{Status}
use Rattle.develop_session.specs.declared.status.Status.TheVariants as status
use Rattle.develop_session.specs.Files.{HasScript, HasEvents}
use Rattle.develop_session.specs.Replay.{HasReplay, Leave}
use Rattle.develop_session.specs.Words.{Replay}

-- the file under the name is a picture, within the first 268,435,456 bytes that are looked at
pub record HasPicture (name : List ℕ) (cfa : Option Cfa) (fs : Files) : Type 0 where
  pub bytes : List ℕ
  pub stands : held fs name ≡ Some bytes
  pub picture : Picture
  pub shows : IsPicture (take 268435456 bytes) cfa picture

-- a script stands under the first name, and a picture under the second, by the script's colour filter array
pub record AreValid (script source : List ℕ) (fs : Files) : Type 0 where
  pub recipe : Recipe
  pub script_stands : HasScript script fs recipe
  pub source_stands : HasPicture source recipe.settings.cfa fs

-- and the events stand there, all of which may happen, each after those before it
pub record IsValidReplay (c : Replay) (fs : Files) : Type 0 where
  pub inputs : AreValid c.script c.source fs
  pub events : List Event
  pub events_stand : HasEvents c.events fs events
  pub happen : (s : SubjectSeen) → HasReplay c s events fs → (o : OutcomeSeen) × Leave s events o

-- no count of faults rose
pub record NoneRose (read_rose put_rose : List ℕ → Type 0) (said_rose : Type 0) : Type 0 where
  pub reads : (name : List ℕ) → read_rose name → ⊥
  pub puts : (name : List ℕ) → put_rose name → ⊥
  pub said : said_rose → ⊥

-- the command did its work, or memory ran out
abbrev pub IsServed : Status → Type 0
IsServed status.Ok = Unit {0}
IsServed status.OutOfMemory = Unit {0}
IsServed _ = ⊥
