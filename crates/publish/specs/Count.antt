-- which entries have a line
use Rattle.std.specs.Prelude.{Bool, true, false}
use Rattle.journal.specs.declared.entry.Entry.{Entry}
use Rattle.journal.specs.declared.entry.Entry.TheVariants.{Changed, Asked, Settled, Closed, Took, Restarted, Published, GaveBack, TicketTook, TicketDone, TicketBack, Stopped}

-- whether the entry has a line
abbrev pub has_line : Entry → Bool
has_line (Changed m) = false
has_line (Asked t m) = false
has_line Settled = false
has_line Closed = false
has_line (Took p w m) = false
has_line (Restarted p w m) = false
has_line (Published p w m) = true
has_line (GaveBack p w) = false
has_line (TicketTook t w) = false
has_line (TicketDone t w) = true
has_line (TicketBack t w) = false
has_line (Stopped w) = false
