use Rattle.std.specs.Arc.{arc_value}
use Rattle.std.proofs.lemmas.Result.{err_from_is_err_and}
use Rattle.develop_session.specs.Names.{session}
use Rattle.develop_session.proofs.SessionLemmas.{is_held, put_stops}
use Rattle.develop_session.proofs.sessions.hold.Goals as goal

pub returns-in_err-write_all-clause-cause : goal.returns-in_err-write_all-clause-cause
returns-in_err-write_all-clause-cause g c =
    let p = err_from_is_err_and c.from_residual-in_err-write_all.result c.from_residual-in_err-write_all.ensures.1 in
    rw (p.1, p.2) (put_stops (session c.args.names) (arc_value c.in_ok-subject.subject) c.in_ok-desk.desk _ _ _ _ _ _ _ _
    c.read_subject.ensures.unchanged c.read_subject.ensures.puts c.in_ok-subject.ensures.subject c.in_ok-desk.ensures.subject c.in_ok-desk.ensures.legal c.in_ok-desk.ensures.complete
    c.in_err-write_all.ensures.cause)

pub returns-clause-ok : goal.returns-clause-ok
returns-clause-ok g c =
    is_held (session c.args.names) (arc_value c.in_ok-subject.subject) c.in_ok-desk.desk _ _ _ c.count_lines.result
    c.read_subject.ensures.unchanged c.in_ok-subject.ensures.subject c.in_ok-desk.ensures.subject c.in_ok-desk.ensures.legal c.in_ok-desk.ensures.complete
    c.count_lines.ensures c.in_ok-write_all.ensures.ok
