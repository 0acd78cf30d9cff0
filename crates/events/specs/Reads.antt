-- what reading events answers
use Rattle.std.specs.Prelude.{◌≡◌, Result, Ok, Err, ⊤}
use Rattle.events.specs.declared.fault.EventsFault.{EventsFault}
use Rattle.events.specs.declared.fault.EventsEnd.{EventsEnd}
use Rattle.events.specs.declared.fault.EventsEnd.TheVariants.{Fault, Memory}

-- what was returned, seen by `view`, is what reading gives, unless memory ran out
abbrev pub IsReadAs : {X Y : Type 0} → (X → Y) → Result X EventsEnd → Result Y EventsFault → Type 0
IsReadAs view (Ok x) read = read ≡ Ok (view x)
IsReadAs view (Err (Fault f)) read = read ≡ Err f
IsReadAs view (Err Memory) read = ⊤
