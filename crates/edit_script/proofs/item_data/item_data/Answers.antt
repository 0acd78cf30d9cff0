use Rattle.std.proofs.Common.{arith}
use Rattle.std.proofs.lemmas.Grind.{common_steps}
use Rattle.edit_script.proofs.TypedLemmas.{blend_at_kept}
use Rattle.edit_script.proofs.item_data.item_data.Goals as goal

pub returns-in-Ok-json-12-clause-typed : goal.returns-in-Ok-json-12-clause-typed
returns-in-Ok-json-12-clause-typed c = record { params = c.in_ok-params.ensures.within; blend = blend_at_kept c.args.item.now c.requires; instance = grind (arith, common_steps) }
