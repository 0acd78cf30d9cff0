use Rattle.std.proofs.Common.{Some, refl, sym, ap, ◌∙◌}
use Rattle.journal.proofs.NextLemmas.{due-pipe, due-ticket}
use Rattle.dev_core.specs.DeskState.{now}
use Rattle.desk.proofs.turns.take_due.Goals as goal

pub take_pipe-requires : goal.take_pipe-requires
take_pipe-requires c =
    let v = c.args.state.now in
    (due-pipe v.subject.script (now v) c.in-Some-Pipe.pipe (sym c.due.ensures ∙ c.in-Some-Pipe.is ∙ ap Some c.in-Some-Pipe.field-0-is), c.requires, refl)

pub take_ticket-requires : goal.take_ticket-requires
take_ticket-requires c =
    let v = c.args.state.now in
    (due-ticket v.subject.script (now v) c.in-Some-Ticket.ticket (sym c.due.ensures ∙ c.in-Some-Ticket.is ∙ ap Some c.in-Some-Ticket.field-0-is), c.requires)
