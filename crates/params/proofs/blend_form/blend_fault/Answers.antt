use Rattle.std.proofs.Common.{arith}
use Rattle.std.proofs.lemmas.Grind.{common_steps}
use Rattle.params.proofs.Faults.{faults_here, faults_behind}
use Rattle.params.proofs.blend_form.blend_fault.Goals as goal

pub returns-in_err-row_fault : goal.returns-in_err-row_fault
returns-in_err-row_fault c = grind (arith, common_steps, faults_here)

pub returns : goal.returns
returns c = grind (arith, common_steps, faults_behind)
