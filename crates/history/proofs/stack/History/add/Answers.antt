use Rattle.history.proofs.HistoryLemmas.{IsHistory-inserted}
use Rattle.history.proofs.stack.History.add.Goals as goal

pub invariant_of-self-2 : goal.invariant_of-self-2
invariant_of-self-2 c =
    let h = c.self.inside in
    IsHistory-inserted h.items.items h.end h.order c.insert.new.self c.args.slot c.args.place c.self.invariant c.in_ok-insert.ensures.slots
