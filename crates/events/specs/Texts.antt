-- why events are refused, in words
use Rattle.std.specs.Prelude.{ℕ, List, codes}
use Rattle.events.specs.declared.fault.EventReason.{EventReason}
use Rattle.events.specs.declared.fault.EventReason.TheVariants.{TooLong, Text, Form, TooMany, NotAllowed}

abbrev pub event_reason_text : EventReason → List ℕ
event_reason_text TooLong = codes "too long"
event_reason_text Text = codes "text"
event_reason_text Form = codes "form"
event_reason_text TooMany = codes "too many"
event_reason_text NotAllowed = codes "not allowed"
