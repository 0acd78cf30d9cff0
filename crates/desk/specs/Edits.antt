-- what the editor does in one turn
use Rattle.std.specs.Prelude.{ℕ, ◌+◌, if◌then◌else◌, List, [], ◌∷◌, length, slice_get, Option, Some, None, Result, Ok, Err}
use Rattle.std.specs.declared.alloc.AllocError.{AllocError}
use Rattle.edit_steps.specs.declared.step.Step.{Step}
use Rattle.edit_steps.specs.Changes.{is_change}
use Rattle.edit_steps.specs.Script.{Recipe}
use Rattle.journal.specs.declared.entry.Entry.{Entry}
use Rattle.journal.specs.declared.entry.Entry.TheVariants as entry
use Rattle.journal.specs.Tickets.{is_ask}
use Rattle.journal.specs.Desk.{Desk, is_settled}
use Rattle.desk.specs.declared.edited.Edited.{Edited}
use Rattle.desk.specs.declared.edited.Edited.TheVariants.{Changed, Asked, Settled, Closed, Unsettled, AllDone}

-- what the editor does with the next step: it makes it, unless it is a settle and the desk isn't settled
abbrev pub edited_step : Recipe → Desk → Step → Edited
edited_step script d step =
    if is_change step then Changed (d.moment + 1) else (if is_ask step then Asked (length d.tickets + 1) else (if is_settled script d then Settled else Unsettled))

-- with no step left it closes
abbrev pub edited_next : Recipe → Desk → Option Step → Edited
edited_next script d None = Closed
edited_next script d (Some step) = edited_step script d step

-- what the editor does at a desk
abbrev pub edited : Recipe → Desk → Edited
edited script d = if d.closed then AllDone else edited_next script d (slice_get script.steps d.steps)

-- the entry of an answer, at a moment
abbrev pub edited_adds : ℕ → Edited → List Entry
edited_adds moment (Changed m) = entry.Changed m ∷ []
edited_adds moment (Asked t) = entry.Asked t moment ∷ []
edited_adds moment Settled = entry.Settled ∷ []
edited_adds moment Closed = entry.Closed ∷ []
edited_adds moment Unsettled = []
edited_adds moment AllDone = []

-- none where memory ran out
abbrev pub edit_adds : ℕ → Result Edited AllocError → List Entry
edit_adds moment (Ok e) = edited_adds moment e
edit_adds moment (Err e) = []
