use Rattle.std.proofs.Common.{◌≡◌, false, drop}
use Rattle.pnm.specs.Fault.{after_filling}
use Rattle.pnm.proofs.words.filling_len.Given as goal

abbrev pub invariant-loop-k : goal.invariant-loop-k
invariant-loop-k l = after_filling l.inside (drop l.k l.text) ≡ after_filling false l.text
