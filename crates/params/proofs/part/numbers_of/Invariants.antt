use Rattle.std.proofs.Common.{◌≡◌, take}
use Rattle.params.specs.Seen.{all_seen, all_stated}
use Rattle.params.proofs.part.numbers_of.Given as goal

abbrev pub invariant-loop-each : goal.invariant-loop-each
invariant-loop-each l = all_seen l.parts.items ≡ all_stated (take l.each-index l.all)
