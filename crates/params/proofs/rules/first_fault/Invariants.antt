use Rattle.std.proofs.Common.{◌≡◌, drop}
use Rattle.params.specs.Rules.{first_fault}
use Rattle.params.proofs.rules.first_fault.Given as goal

abbrev pub invariant-loop-entry : goal.invariant-loop-entry
invariant-loop-entry l = first_fault (drop l.entry-index l.entries) ≡ first_fault l.entries
