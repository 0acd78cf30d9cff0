use Rattle.std.proofs.Common.{◌≡◌}
use Rattle.turn_lock.specs.Known.{IsIdle}
use Rattle.value_tests.proofs.turn_lock_tests.write_many.Given as goal

abbrev pub invariant-loop-text : goal.invariant-loop-text
invariant-loop-text g l = IsIdle l.lock l.pass × (l.pass.number ≡ l.initial.pass.number)
