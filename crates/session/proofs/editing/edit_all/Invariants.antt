use Rattle.std.proofs.Common.{◌≡◌}
use Rattle.session.specs.Workers.{Ready, number_of}
use Rattle.session.proofs.editing.edit_all.Given as goal

abbrev pub invariant-loop : goal.invariant-loop
invariant-loop g l = record { ready : Ready l.shared l.worker; bears : number_of l.worker ≡ 0 }
