use Rattle.std.proofs.Common.{arith}
use Rattle.std.proofs.lemmas.Grind.{common_steps}
use Rattle.params.proofs.ReadLemmas.{pair_read, pair_refused, pairs_done}
use Rattle.params.proofs.row_form.pairs_form.Goals as goal

pub returns-in_default : goal.returns-in_default
returns-in_default c = grind (arith, common_steps, pair_refused)

pub loop-value-preserved : goal.loop-value-preserved
loop-value-preserved c = grind (arith, common_steps, pair_read)

pub returns : goal.returns
returns c = grind (arith, common_steps, pairs_done)
