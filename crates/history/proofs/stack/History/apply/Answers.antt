use Rattle.std.proofs.Common.{sym, ap, ◌∙◌}
use Rattle.history.specs.After.{after, after_delete}
use Rattle.history.proofs.stack.History.apply.Goals as goal

pub returns-in-Delete-clause-history : goal.returns-in-Delete-clause-history
returns-in-Delete-clause-history c =
    c.delete.ensures ∙ ap (after_delete c.args.self.now) c.slot_at-in-Delete.ensures ∙ sym (ap (after c.args.self.now) c.in-Delete.is)
