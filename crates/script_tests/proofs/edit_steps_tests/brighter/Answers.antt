use Rattle.std.proofs.Common.{refl}
use Rattle.params.specs.Rules.{first_fault}
use Rattle.script_tests.proofs.edit_steps_tests.brighter.Goals as goal

pub returns : goal.returns
unfolding first_fault
returns c = refl
