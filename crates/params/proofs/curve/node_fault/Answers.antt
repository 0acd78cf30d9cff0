use Rattle.std.proofs.Common.{rules}
use Rattle.params.proofs.Faults.{kept_on_ok}
use Rattle.params.proofs.curve.node_fault.Goals as goal

pub returns-clause-kept : goal.returns-clause-kept
returns-clause-kept c = kept_on_ok _ _ (search rules)
