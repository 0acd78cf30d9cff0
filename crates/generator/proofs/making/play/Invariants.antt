use Rattle.std.proofs.Common.{◌≡◌, ◌*◌}
use Rattle.generator.specs.Draws.{number_at}
use Rattle.generator.specs.Picture.{number_behind}
use Rattle.generator.specs.Rounds.{play_to}
use Rattle.generator.proofs.making.play.Given as goal

abbrev pub invariant-loop-i : goal.invariant-loop-i
invariant-loop-i g l = record { number : l.draws.number ≡ number_at (number_behind l.fn.n) (3 * l.i); play : l.play ≡ play_to l.fn.n l.i }
