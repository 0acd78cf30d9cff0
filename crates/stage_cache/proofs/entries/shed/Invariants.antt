use Rattle.std.proofs.Common.{◌≡◌, ◌≤◌, length}
use Rattle.px.specs.Cut.{Cut}
use Rattle.stage_cache.specs.Stages.{front_within, total_pixels}
use Rattle.stage_cache.specs.StageCache.{stages_of, AreOf}
use Rattle.stage_cache.proofs.entries.shed.Given as goal

-- the longest front is still the same
abbrev pub invariant-loop-used : goal.invariant-loop-used
invariant-loop-used l = record {
  used : l.used ≡ total_pixels (stages_of l.entries.entries);
  limit : l.entries.cap ≡ l.fn.entries.cap;
  few : length l.entries.entries ≤ l.fn.entries.cap;
  front : front_within l.fn.entries.cap l.fn.budget (stages_of l.entries.entries) ≡ front_within l.fn.entries.cap l.fn.budget (stages_of l.fn.entries.entries);
  of : (source : Cut) → AreOf source l.fn.entries.entries → AreOf source l.entries.entries;
}

abbrev pub decreases-loop-used : goal.decreases-loop-used
decreases-loop-used l = length l.entries.entries
