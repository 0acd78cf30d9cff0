use Rattle.events.proofs.ReadLemmas.{events_of_front}
use Rattle.events.proofs.reading.read_events.Goals as goal

pub returns-clause-front : goal.returns-clause-front
returns-clause-front c text front = rw (events_of_front text c.args.bytes.now front) c.events_of.ensures.read
