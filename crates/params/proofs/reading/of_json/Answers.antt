use Rattle.serde_json.specs.View.{view}
use Rattle.params.proofs.WithinLemmas.{params_within_on_ok, params_module_on_ok}
use Rattle.params.proofs.reading.of_json.Goals as goal

pub returns-clause-within : goal.returns-clause-within
returns-clause-within c = params_within_on_ok c.params_read.result c.args.module c.args.version (view c.args.value.now) c.params_read.ensures

pub returns-clause-module : goal.returns-clause-module
returns-clause-module c = params_module_on_ok c.params_read.result c.args.module c.args.version (view c.args.value.now) c.params_read.ensures
