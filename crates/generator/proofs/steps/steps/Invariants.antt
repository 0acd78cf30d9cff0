use Rattle.std.proofs.Common.{◌≡◌, ◌*◌}
use Rattle.std.specs.List.{All}
use Rattle.edit_steps.specs.Ranges.{IsStepWithin}
use Rattle.generator.specs.Draws.{number_at}
use Rattle.generator.specs.Script.{steps_to}
use Rattle.generator.proofs.steps.steps.Given as goal

abbrev pub invariant-loop-i : goal.invariant-loop-i
invariant-loop-i l = record {
  steps : l.steps.items ≡ steps_to l.fn.draws.number l._i;
  number : l.draws.number ≡ number_at l.fn.draws.number (3 * l._i);
  within : All IsStepWithin l.steps.items;
}
