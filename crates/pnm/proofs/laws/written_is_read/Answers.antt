use Rattle.pnm.proofs.WrittenLemmas.{written_shows}
use Rattle.pnm.proofs.laws.written_is_read.Goals as goal

pub returns : goal.returns
returns c = written_shows
