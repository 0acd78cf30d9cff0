use Rattle.std.proofs.Common.{◌≡◌, drop}
use Rattle.params.specs.Form.{named}
use Rattle.params.specs.Names.{name_of_module, module_named}
use Rattle.params.specs.Table.{all_modules}
use Rattle.params.proofs.modules.module_named.Given as goal

abbrev pub invariant-loop-module : goal.invariant-loop-module
invariant-loop-module l = named name_of_module (drop l.module-index all_modules) l.name ≡ module_named l.name
