use Rattle.std.proofs.Common.{length, take, ap, arith}
use Rattle.std.proofs.lemmas.List.{length-take-le}
use Rattle.history.proofs.HistoryLemmas.{IsHistory-compressed}
use Rattle.history.proofs.ItemLemmas.{length-last_items}
use Rattle.history.proofs.stack.History.compress.Goals as goal

pub overflow_cast-self : goal.overflow_cast-self
overflow_cast-self c =
    let h = c.self.inside in
    omega (arith, ap length c.in_ok-compress.ensures.items, length-last_items (take h.end h.items.items), length-take-le h.end h.items.items c.self.invariant.end)

pub invariant_of-self-2 : goal.invariant_of-self-2
invariant_of-self-2 c =
    let h = c.self.inside in
    IsHistory-compressed h.items.items c.compress.new.items.items h.end c.len.result h.order c.self.invariant c.in_ok-compress.ensures.items (omega arith)
