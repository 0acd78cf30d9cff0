use Rattle.std.proofs.Common.{◌≡◌}
use Rattle.generator.specs.Rounds.{rounds}
use Rattle.generator.proofs.play.Play.rounds.Given as goal

abbrev pub invariant-loop-i : goal.invariant-loop-i
invariant-loop-i g l = l.self ≡ rounds l._i l.fn.self
