use Rattle.std.proofs.Common.{◌≡◌, ◌≤◌, None, length, drop}
use Rattle.stage_cache.specs.Stages.{found_index}
use Rattle.stage_cache.specs.StageCache.{stages_of}
use Rattle.stage_cache.proofs.entries.last_covered.Given as goal

-- none from the index on is covered
abbrev pub invariant-loop-i : goal.invariant-loop-i
invariant-loop-i l = record {
  within : l.i ≤ length l.fn.list;
  none : found_index (stages_of l.fn.entries.entries) (drop l.i l.fn.list) ≡ None;
}

abbrev pub decreases-loop-i : goal.decreases-loop-i
decreases-loop-i l = l.i
