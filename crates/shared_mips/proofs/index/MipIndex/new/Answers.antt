use Rattle.shared_mips.proofs.IndexLemmas.{index_new}
use Rattle.shared_mips.proofs.index.MipIndex.new.Goals as goal

pub invariant_of-result : goal.invariant_of-result
invariant_of-result c = index_new c.args.slots _ _ _ c.in_ok-state.ensures c.new-2.ensures.items
