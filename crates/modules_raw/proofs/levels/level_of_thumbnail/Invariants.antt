use Rattle.std.proofs.Common.{ℕ, ◌<◌}
use Rattle.modules_raw.specs.Levels.{Fills}
use Rattle.modules_raw.proofs.levels.level_of_thumbnail.Given as goal

abbrev pub invariant-loop-l : goal.invariant-loop-l
invariant-loop-l l = record {
  few : l.best < l.l;
  fills : 0 < l.best → Fills l.w l.h l.size.w l.size.h l.best;
  greatest : (k : ℕ) → l.best < k → k < l.l → Fills l.w l.h l.size.w l.size.h k → ⊥;
}
