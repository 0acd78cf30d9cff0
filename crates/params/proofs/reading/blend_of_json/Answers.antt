use Rattle.serde_json.specs.View.{view}
use Rattle.params.proofs.WithinLemmas.{blend_within_on_ok}
use Rattle.params.proofs.reading.blend_of_json.Goals as goal

pub returns-clause-within : goal.returns-clause-within
returns-clause-within c = blend_within_on_ok c.blend_read.result (view c.args.value.now) c.blend_read.ensures
