use Rattle.std.proofs.Common.{arith}
use Rattle.std.proofs.lemmas.Grind.{common_steps}
use Rattle.params.proofs.Faults.{few_nodes}
use Rattle.params.proofs.curve.count_fault.Goals as goal

pub returns-clause-few : goal.returns-clause-few
returns-clause-few c = grind (arith, common_steps, few_nodes)
