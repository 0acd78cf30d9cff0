use Rattle.std.proofs.Common.{sym, ◌∙◌}
use Rattle.params.specs.Names.{name_of_module}
use Rattle.params.specs.Table.{all_modules}
use Rattle.params.proofs.NameLemmas.{named_behind}
use Rattle.params.proofs.modules.module_named.Goals as goal

pub loop-module-preserved : goal.loop-module-preserved
loop-module-preserved c =
    let other = rw c.name.ensures.value at (sym c.if-eq.ensures) in
    named_behind name_of_module _ all_modules _ _ c.loop-module-test.true other ∙ c.loop-module.invariant
