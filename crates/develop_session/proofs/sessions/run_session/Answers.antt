use Rattle.develop_session.proofs.SessionLemmas.{stops_end}
use Rattle.develop_session.proofs.sessions.run_session.Goals as goal

pub returns-in-Err : goal.returns-in-Err
returns-in-Err g c = stops_end (record { script = c.args.script.now; source = c.args.source.now }) _ _ _ _ _ _ _ c.in-Err.status c.in-Err.ensures.cause c.tell.ensures.told
