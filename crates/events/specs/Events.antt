-- The events that a text is, or its first fault. The order of the binds is the order of the faults.
use Rattle.std.specs.Prelude.{ℕ, suc, List, [], ◌∷◌, Option, Some, None, Result, Ok, Err, nat_le, if◌then◌else◌}
use Rattle.serde_json.specs.Data.{Data, Items, no_items, item}
use Rattle.serde_json.specs.Find.{as_array}
use Rattle.json_form.specs.declared.text.TextEnd.{TextEnd}
use Rattle.json_form.specs.declared.text.TextEnd.TheVariants as texts
use Rattle.json_form.specs.Text.{text_of}
use Rattle.events.specs.declared.event.Event.{Event}
use Rattle.events.specs.declared.fault.EventReason.{EventReason}
use Rattle.events.specs.declared.fault.EventReason.TheVariants.{TooLong, Text, Form, TooMany}
use Rattle.events.specs.declared.fault.EventsFault.{EventsFault}
use Rattle.events.specs.Forms.{event_of}

-- what follows a value, unless there was a fault
infixl 10 ◌>>=◌
abbrev pub ◌>>=◌ : {A B : Type 0} → Result A EventsFault → (A → Result B EventsFault) → Result B EventsFault
Ok x >>= f = f x
Err fault >>= f = Err fault

-- ---- faults, each at a place: 0 stands for the text and the list, and events count from 1

abbrev pub fault_at : ℕ → EventReason → EventsFault
fault_at place reason = record { place = place; reason = reason }

abbrev pub or_form : {A : Type 0} → ℕ → Option A → Result A EventsFault
or_form place None = Err (fault_at place Form)
or_form place (Some x) = Ok x

abbrev pub or_text : Result Data TextEnd → Result Data EventsFault
or_text (Ok d) = Ok d
or_text (Err texts.TooLong) = Err (fault_at 0 TooLong)
or_text (Err texts.Text) = Err (fault_at 0 Text)
or_text (Err texts.Memory) = Err (fault_at 0 Text)

-- ---- the events

-- the event at its place; there are 65,536 places
abbrev pub event_at : ℕ → Data → Result Event EventsFault
event_at place d = if nat_le place 65536 then or_form place (event_of d) else Err (fault_at place TooMany)

-- the events from a place on
abbrev pub events_from : ℕ → Items → Result (List Event) EventsFault
events_from place no_items = Ok []
events_from place (item d ds) = do
  e ← event_at place d
  es ← events_from (suc place) ds
  Ok (e ∷ es)

abbrev pub list_of : Data → Result (List Event) EventsFault
list_of d = or_form 0 (as_array d) >>= events_from 1

-- the events of a text of at most 4,194,304 bytes, or its first fault
abbrev pub events_of : List ℕ → Result (List Event) EventsFault
events_of bytes = or_text (text_of bytes) >>= list_of
