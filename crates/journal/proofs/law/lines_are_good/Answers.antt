use Rattle.journal.proofs.GoodLemmas.{told, lines_known, lines_good}
use Rattle.journal.proofs.law.lines_are_good.Goals as goal

pub returns : goal.returns
returns c = record {
  names = λ script journal legal. (told script journal legal).names;
  known = lines_known;
  rises = λ script journal legal. (told script journal legal).rises;
  good = lines_good;
}
