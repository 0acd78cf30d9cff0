use Rattle.serde_json.specs.View.{view}
use Rattle.edit_script.proofs.ReadLemmas.{settings_on_ok}
use Rattle.edit_script.proofs.reading.settings_of.Goals as goal

pub returns-in-Ok-clause-within : goal.returns-in-Ok-clause-within
returns-in-Ok-clause-within c = settings_on_ok (view c.args.value.now) c.in-Ok.settings c.in-Ok.ensures
