use Rattle.std.proofs.Common.{ℕ, ◌<◌}
use Rattle.modules_raw.specs.Levels.{FitsIn}
use Rattle.modules_raw.proofs.levels.level_of_preview.Given as goal

abbrev pub invariant-loop-l : goal.invariant-loop-l
invariant-loop-l l = (k : ℕ) → k < l.l → FitsIn l.w l.h l.side k → ⊥
