use Rattle.std.proofs.Common.{◌≡◌, ◌≤◌, drop}
use Rattle.std.specs.Prelude.{slice_get}
use Rattle.journal.specs.Tickets.{asks_from, numbered}
use Rattle.journal.proofs.asking.ask_at.Given as goal

-- what is asked for by the steps that are left
abbrev pub invariant-loop-step : goal.invariant-loop-step
invariant-loop-step l = record {
  asks : slice_get (asks_from l.moment (drop l.step-index l.steps)) l.left ≡ numbered (asks_from 0 l.steps) l.ticket;
  low : l.moment ≤ l.step-index;
}
