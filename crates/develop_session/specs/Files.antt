-- what stands under the names of a command
use Rattle.std.specs.Prelude.{◌≡◌, ℕ, List, take, Option, Some, Ok, Err}
use Rattle.px.specs.Picture.{Picture}
use Rattle.px.specs.declared.kind.Cfa.{Cfa}
use Rattle.pnm.specs.declared.fault.PnmFault.{PnmFault}
use Rattle.pnm.specs.Fault.{fault_of}
use Rattle.pnm.specs.Pnm.{IsPicture}
use Rattle.outside.specs.Shelf.{Files, held}
use Rattle.edit_steps.specs.declared.fault.ScriptFault.{ScriptFault}
use Rattle.edit_steps.specs.Script.{Recipe}
use Rattle.edit_script.specs.Script.{script_of}
use Rattle.events.specs.declared.event.Event.{Event}
use Rattle.events.specs.declared.fault.EventsFault.{EventsFault}
use Rattle.events.specs.Events.{events_of}

-- a script stands under the name
pub record HasScript (name : List ℕ) (fs : Files) (script : Recipe) : Type 0 where
  pub bytes : List ℕ
  pub stands : held fs name ≡ Some bytes
  pub reads : script_of bytes ≡ Ok script

-- the file under the name is no script, and this is its first fault
pub record HasBadScript (name : List ℕ) (fault : ScriptFault) (fs : Files) : Type 0 where
  pub bytes : List ℕ
  pub stands : held fs name ≡ Some bytes
  pub reads : script_of bytes ≡ Err fault

-- some script stands there
abbrev pub HasSomeScript : List ℕ → Files → Type 0
HasSomeScript name fs = (script : Recipe) × HasScript name fs script

-- a script stands there, of which this holds
abbrev pub HasScriptThat : (Recipe → Type 0) → List ℕ → Files → Type 0
HasScriptThat P name fs = (script : Recipe) × HasScript name fs script × P script

-- the file under the name is this picture, by the colour filter array
pub record HasSource (name : List ℕ) (cfa : Option Cfa) (fs : Files) (q : Picture) : Type 0 where
  pub bytes : List ℕ
  pub stands : held fs name ≡ Some bytes
  pub shows : IsPicture bytes cfa q

-- the file under the name is no picture, and this is its first fault. Its first 268,435,456 bytes are looked at
pub record HasBadSource (name : List ℕ) (cfa : Option Cfa) (fault : PnmFault) (fs : Files) : Type 0 where
  pub bytes : List ℕ
  pub stands : held fs name ≡ Some bytes
  pub reads : fault_of (take 268435456 bytes) cfa ≡ Some fault

-- the file under the name is this list of events
pub record HasEvents (name : List ℕ) (fs : Files) (events : List Event) : Type 0 where
  pub bytes : List ℕ
  pub stands : held fs name ≡ Some bytes
  pub reads : events_of bytes ≡ Ok events

-- the file under the name is no list of events, and this is its first fault
pub record HasBadEvents (name : List ℕ) (fault : EventsFault) (fs : Files) : Type 0 where
  pub bytes : List ℕ
  pub stands : held fs name ≡ Some bytes
  pub reads : events_of bytes ≡ Err fault
