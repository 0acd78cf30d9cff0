use Rattle.std.proofs.Common.{arith}
use Rattle.std.proofs.lemmas.Grind.{common_steps}
use Rattle.params.proofs.FormLemmas.{only-members_view}
use Rattle.params.proofs.row_form.only_keys.Goals as goal

pub returns-then-not-is_key : goal.returns-then-not-is_key
returns-then-not-is_key c = rw only-members_view (grind (arith, common_steps))

pub returns : goal.returns
returns c = rw only-members_view (grind (arith, common_steps))
