-- One event, read from JSON: a list of a word and what it needs.
use Rattle.std.specs.Prelude.{ℕ, List, Option, Some, None, option_and_then, codes, bytes_eq, if◌then◌else◌}
use Rattle.serde_json.specs.Data.{Data, Items, no_items, item}
use Rattle.serde_json.specs.Find.{as_array, as_str}
use Rattle.params.specs.Form.{natural, ◌>>=◌}
use Rattle.outside.specs.declared.job_name.Pipe.{Pipe}
use Rattle.events.specs.declared.event.Event.{Event}
use Rattle.events.specs.declared.event.Event.TheVariants.{Editor, Take, TakeTicket}
use Rattle.events.specs.Words.{pipe_named, event_named}

-- ---- what stands beside a word

-- the editor is worker 0, and there are at most four others
abbrev pub worker_in : Data → Option ℕ
worker_in d = natural 0 4 d

abbrev pub ticket_in : Data → Option ℕ
ticket_in d = natural 0 65535 d

abbrev pub pipe_in : Data → Option Pipe
pipe_in d = option_and_then pipe_named (as_str d)

-- ---- an event by its word

abbrev pub take_of : ℕ → Data → Option Event
take_of w d = do
  pipe ← pipe_in d
  Some (Take w pipe)

abbrev pub take_ticket_of : ℕ → Data → Option Event
take_ticket_of w d = do
  ticket ← ticket_in d
  Some (TakeTicket w ticket)

-- of a word that stands alone
abbrev pub alone : List ℕ → Option Event
alone word = if bytes_eq word (codes "editor") then Some Editor else None

-- of a word with a worker and a third part
abbrev pub with_third : List ℕ → ℕ → Data → Option Event
with_third word w third =
    if bytes_eq word (codes "take") then take_of w third
    else if bytes_eq word (codes "take_ticket") then take_ticket_of w third
    else None

-- ---- an event by its parts

abbrev pub event_of_one : Data → Option Event
event_of_one a = option_and_then alone (as_str a)

abbrev pub event_of_two : Data → Data → Option Event
event_of_two a b = do
  word ← as_str a
  w ← worker_in b
  event_named word w

abbrev pub event_of_three : Data → Data → Data → Option Event
event_of_three a b c = do
  word ← as_str a
  w ← worker_in b
  with_third word w c

-- a word, then a worker where it needs one, then a pipe or a ticket where it needs one
unfoldable pub event_of_parts : Items → Option Event
event_of_parts no_items = None
event_of_parts (item a no_items) = event_of_one a
event_of_parts (item a (item b no_items)) = event_of_two a b
event_of_parts (item a (item b (item c no_items))) = event_of_three a b c
event_of_parts (item a (item b (item c (item d more)))) = None

unfoldable pub event_of : Data → Option Event
event_of d = option_and_then event_of_parts (as_array d)
