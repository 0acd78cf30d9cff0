use Rattle.std.proofs.Common.{length, ap, ◌∙◌}
use Rattle.std.specs.Arc.{arc_value}
use Rattle.std.proofs.lemmas.Result.{err_from_is_err_and}
use Rattle.outside.proofs.FaultLaws.{NoneFalls-then}
use Rattle.develop_session.specs.Names.{replay}
use Rattle.develop_session.proofs.ReplayLemmas.{is_replayed, put_declines, events_decline}
use Rattle.develop_session.proofs.replay.run_files.Goals as goal

pub returns-in_err-write_all-clause-cause : goal.returns-in_err-write_all-clause-cause
returns-in_err-write_all-clause-cause g c =
    let p = err_from_is_err_and c.from_residual-in_err-write_all.result c.from_residual-in_err-write_all.ensures.1 in
    rw (p.1, p.2) (put_declines (replay c.args.names) (arc_value c.in_ok-subject.subject) c.in_ok-events.events.items c.in_ok-outcome.outcome c.desk.result.now _ _ _ _ _ _ _ _ _
    c.read_subject.ensures.unchanged c.read_events.ensures.unchanged (NoneFalls-then _ _ _ c.read_subject.ensures.puts c.read_events.ensures.puts)
    c.in_ok-subject.ensures.subject c.in_ok-events.ensures.events (rw (← c.as_slice.ensures.value) c.in_ok-outcome.ensures.left)
    c.desk.ensures.subject c.desk.ensures.journal c.in_err-write_all.ensures.cause)

pub returns-clause-ok : goal.returns-clause-ok
returns-clause-ok g c =
    is_replayed (replay c.args.names) (arc_value c.in_ok-subject.subject) c.in_ok-events.events.items c.in_ok-outcome.outcome c.desk.result.now _ _ _ _ c.tally_of.result
    c.read_subject.ensures.unchanged c.read_events.ensures.unchanged
    c.in_ok-subject.ensures.subject c.in_ok-events.ensures.events (rw (← c.as_slice.ensures.value) c.in_ok-outcome.ensures.left)
    c.desk.ensures.subject c.desk.ensures.journal c.in_ok-write_all.ensures.ok (c.tally_of.ensures.events ∙ ap length c.as_slice-2.ensures.value) c.tally_of.ensures.lines c.tally_of.ensures.complete

pub returns-in_err-events-clause-cause : goal.returns-in_err-events-clause-cause
returns-in_err-events-clause-cause g c =
    let p = err_from_is_err_and c.from_residual-in_err-events.result c.from_residual-in_err-events.ensures.1 in
    rw (p.1, p.2) (events_decline (replay c.args.names) (arc_value c.in_ok-subject.subject) _ _ _ _ _ _ _ _
    c.read_subject.ensures.unchanged c.read_events.ensures.unchanged c.read_subject.ensures.reads c.in_ok-subject.ensures.subject c.in_err-events.ensures.cause)
