use Rattle.std.proofs.Common.{arith}
use Rattle.std.proofs.lemmas.Grind.{common_steps}
use Rattle.params.proofs.FormLemmas.{only-members_view}
use Rattle.params.proofs.form.only.Goals as goal

pub returns-then-not-is_one_of : goal.returns-then-not-is_one_of
returns-then-not-is_one_of c = rw only-members_view (grind (arith, common_steps))

pub returns : goal.returns
returns c = rw only-members_view (grind (arith, common_steps))
