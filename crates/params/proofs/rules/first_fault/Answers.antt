use Rattle.std.proofs.Common.{arith}
use Rattle.std.proofs.lemmas.Grind.{common_steps}
use Rattle.params.proofs.Faults.{fault_behind, fault_here, no_fault}
use Rattle.params.proofs.rules.first_fault.Goals as goal

pub returns-in_err-held : goal.returns-in_err-held
returns-in_err-held c = grind (arith, common_steps, fault_here)

pub loop-entry-preserved : goal.loop-entry-preserved
loop-entry-preserved c = grind (arith, common_steps, fault_behind)

pub returns : goal.returns
returns c = grind (arith, common_steps, no_fault)
