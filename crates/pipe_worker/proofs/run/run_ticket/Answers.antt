use Rattle.dev_core.specs.Jobs.{JobSeen}
use Rattle.pipe_worker.proofs.Holding.{holds_saw, gained_ticket}
use Rattle.pipe_worker.proofs.Running.{ticket_done}
use Rattle.pipe_worker.proofs.run.run_ticket.Goals as goal

pub returns-in-Made-clause-ran : goal.returns-in-Made-clause-ran
returns-in-Made-clause-ran g c =
    let j : JobSeen = c.args.job in
    let t = c.in-Made.ensures.tried in
    let held = holds_saw c.args.desk.now j c.args.passes.now.desk c.attempt.new.passes.desk 0 t.desk c.requires.holds in
    ticket_done j c.args.ticket _ _ c.args.nodes.now c.args.passes.now _ _ _ c.requires.name t
    (gained_ticket j c.args.ticket c.attempt.new.passes.desk c.finish_ticket.new.pass c.requires.name held.worker_is c.finish_ticket.ensures.turn)
