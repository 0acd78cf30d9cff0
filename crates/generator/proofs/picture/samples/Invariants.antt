use Rattle.std.proofs.Common.{◌≡◌}
use Rattle.generator.specs.Draws.{number_at}
use Rattle.generator.specs.Picture.{samples}
use Rattle.generator.proofs.picture.samples.Given as goal

abbrev pub invariant-loop-i : goal.invariant-loop-i
invariant-loop-i l = record { values : l.values.items ≡ samples l.fn.draws.number l._i; number : l.draws.number ≡ number_at l.fn.draws.number l._i }
