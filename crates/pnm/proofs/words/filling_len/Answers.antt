use Rattle.pnm.proofs.WordLemmas.{filling_stop}
use Rattle.pnm.proofs.words.filling_len.Goals as goal

pub returns-in_default-clause-rest : goal.returns-in_default-clause-rest
returns-in_default-clause-rest c = filling_stop c.loop-k.inside c.args.text.now c.loop-k.k c.loop-k-test.true c.in_default.ensures c.loop-k.invariant
