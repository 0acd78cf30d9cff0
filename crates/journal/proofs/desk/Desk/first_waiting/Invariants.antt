use Rattle.std.proofs.Common.{◌≡◌, ◌+◌, drop}
use Rattle.journal.specs.Desk.{first_waiting}
use Rattle.journal.proofs.desk.Desk.first_waiting.Given as goal

-- the least ticket that waits is among those that are left
abbrev pub invariant-loop-ticket : goal.invariant-loop-ticket
invariant-loop-ticket l = record {
  least : first_waiting l.number (drop l.ticket-index l.ticket-items) ≡ first_waiting 1 l.ticket-items;
  count : l.number ≡ l.ticket-index + 1;
}
