use Rattle.turn_lock.specs.Known.{IsIdle}
use Rattle.desk.specs.Passes.{HasNoJob}
use Rattle.desk.specs.Turns.{Waited}
use Rattle.desk.proofs.shared.SharedDesk.next_job.Given as goal

abbrev pub invariant-loop : goal.invariant-loop
invariant-loop g l = record { idle : IsIdle l.self l.pass; free : HasNoJob l.self l.pass; waited : Waited l.fn.pass l.pass }
