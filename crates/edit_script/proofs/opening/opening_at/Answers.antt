use Rattle.std.proofs.Common.{Some}
use Rattle.serde_json.specs.View.{view}
use Rattle.edit_script.proofs.OpeningLemmas.{opening_on_ok}
use Rattle.edit_script.proofs.opening.opening_at.Goals as goal

pub returns-in-Some-clause-within : goal.returns-in-Some-clause-within
returns-in-Some-clause-within c = opening_on_ok (Some (view c.in-Some.value.now)) c.opening_read.result c.opening_read.ensures
