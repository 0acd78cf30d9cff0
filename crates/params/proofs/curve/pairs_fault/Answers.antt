use Rattle.std.proofs.Common.{arith}
use Rattle.std.proofs.lemmas.Grind.{common_steps}
use Rattle.std.proofs.lemmas.List.{length-map}
use Rattle.params.proofs.Faults.{count_behind, count_here}
use Rattle.params.proofs.curve.pairs_fault.Goals as goal

pub returns-in_err-count_fault : goal.returns-in_err-count_fault
returns-in_err-count_fault c = grind (arith, common_steps, length-map, count_here)

pub returns : goal.returns
returns c = grind (arith, common_steps, length-map, count_behind)
