use Rattle.modules_raw.specs.Mapped.{AreChanged, second_in}
use Rattle.modules_raw.proofs.in_turn.whole_pairs.Given as goal

abbrev pub invariant-loop-k : goal.invariant-loop-k
invariant-loop-k g l = AreChanged 2 l.k (second_in (g.C.ValueMap.makes l.first) (g.C.ValueMap.makes l.second)) l.from l.row
