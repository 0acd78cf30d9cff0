use Rattle.std.proofs.Common.{arith}
use Rattle.history.proofs.ItemLemmas.{IsCompressing-more}
use Rattle.history.proofs.lists.compress.Goals as goal

pub loop-item-preserved : goal.loop-item-preserved
loop-item-preserved c = (
  IsCompressing-more _ c.loop-item.items.items c.pop.new.self.items c.loop-item.kept.items c.keep_last.new.kept.items c.in-Some.item c.loop-item.invariant.0 c.in-Some.ensures.items c.keep_last.ensures.items,
  omega (arith, c.in-Some.ensures.len, c.loop-item.invariant.1, c.keep_last.ensures.len, c.keep_last.ensures.capacity),
)
