use Rattle.std.proofs.Common.{rules}
use Rattle.params.proofs.WithinLemmas.{within_tells}
use Rattle.params.proofs.checks.check.Goals as goal

pub returns-clause-within : goal.returns-clause-within
returns-clause-within c = within_tells c.args.params.now c.row_fault.result c.parts_of.ensures.sized (search rules)
