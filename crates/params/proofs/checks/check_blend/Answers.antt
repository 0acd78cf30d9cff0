use Rattle.std.proofs.Common.{rules}
use Rattle.std.specs.Option.{option_copied}
use Rattle.params.proofs.Faults.{fit_tells}
use Rattle.params.proofs.checks.check_blend.Goals as goal

pub returns-then-blends-clause-fit : goal.returns-then-blends-clause-fit
returns-then-blends-clause-fit c = fit_tells c.args.module (option_copied c.args.blend) c.blend_fault.result (search rules)
