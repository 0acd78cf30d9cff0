-- the names of a command, as the program holds them
use Rattle.develop_session.specs.declared.command.Names.{Names}
use Rattle.develop_session.specs.declared.command.ReplayNames.{ReplayNames}
use Rattle.develop_session.specs.declared.command.SessionNames.{SessionNames}
use Rattle.develop_session.specs.Words.{Command, Replay, Session}

abbrev pub command : Names → Command
command n = record { script = n.script.now; source = n.source.now; out = n.out.now }

abbrev pub replay : ReplayNames → Replay
replay n = record { script = n.script.now; source = n.source.now; events = n.events.now }

abbrev pub session : SessionNames → Session
session n = record { script = n.script.now; source = n.source.now }
