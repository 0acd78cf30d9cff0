use Rattle.std.proofs.Common.{◌≡◌}
use Rattle.generator.specs.Rounds.{rest_within}
use Rattle.generator.proofs.play.Play.rest.Given as goal

-- the rounds that are left lead where all of them do
abbrev pub invariant-loop-left : goal.invariant-loop-left
invariant-loop-left g l = rest_within l.left l.self ≡ rest_within 65536 l.fn.self

abbrev pub decreases-loop-left : goal.decreases-loop-left
decreases-loop-left g l = l.left
