use Rattle.modules_raw.specs.Mapped.{AreChanged, third_in}
use Rattle.modules_raw.proofs.in_turn.whole_threes.Given as goal

abbrev pub invariant-loop-k : goal.invariant-loop-k
invariant-loop-k g l = AreChanged 3 l.k (third_in (g.C.ValueMap.makes l.first) (g.C.ValueMap.makes l.second) (g.C.ValueMap.makes l.third)) l.from l.row
