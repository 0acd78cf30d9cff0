use Rattle.history.proofs.HistoryLemmas.{IsHistory-moved}
use Rattle.history.proofs.stack.History.move_to.Goals as goal

pub invariant_of-self : goal.invariant_of-self
invariant_of-self c =
    let h = c.self.inside in
    IsHistory-moved h.items.items h.end h.order c.move_to.new.self c.args.slot c.args.place c.self.invariant c.move_to.ensures
