use Rattle.std.proofs.Common.{take, count_by, ap, ◌∙◌, ◌-◌}
use Rattle.history.specs.Item.{is_of}
use Rattle.history.proofs.HistoryLemmas.{IsHistory-deleted}
use Rattle.history.proofs.stack.History.delete.Goals as goal

pub invariant_of-self : goal.invariant_of-self
invariant_of-self c =
    let h = c.self.inside in
    let gone = c.count_items-gone.ensures ∙ ap (λ xs. count_by (is_of c.args.slot) (take h.end xs)) c.deref.ensures.value in
    IsHistory-deleted h.items.items c.drop_items.new.items.items h.end _ h.order c.remove.new.self c.args.slot c.self.invariant c.drop_items.ensures (ap (λ n. h.end - n) gone) c.remove.ensures
