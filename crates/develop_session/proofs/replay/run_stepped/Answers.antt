use Rattle.develop_session.proofs.ReplayLemmas.{declines_reply}
use Rattle.develop_session.proofs.replay.run_stepped.Goals as goal

pub returns-in-Err : goal.returns-in-Err
returns-in-Err g c = declines_reply (record { script = c.args.script.now; source = c.args.source.now; events = c.args.events.now }) _ _ _ _ _ _ _ c.in-Err.status c.in-Err.ensures.cause c.tell.ensures.told
