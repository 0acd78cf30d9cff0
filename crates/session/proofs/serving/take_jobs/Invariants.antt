use Rattle.std.proofs.Common.{◌≡◌}
use Rattle.session.specs.Workers.{Ready, number_of}
use Rattle.session.proofs.serving.take_jobs.Given as goal

abbrev pub invariant-loop : goal.invariant-loop
invariant-loop g l = record { ready : Ready l.shared l.worker; bears : number_of l.worker ≡ number_of l.fn.worker }
