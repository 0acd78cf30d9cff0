use Rattle.std.proofs.Common.{◌≡◌, ◌++◌}
use Rattle.stage_cache.specs.StageCache.{stages_of}
use Rattle.stage_cache.proofs.entries.listed.Given as goal

-- those so far and those that are left are all
abbrev pub invariant-loop-prefix : goal.invariant-loop-prefix
invariant-loop-prefix l = l.list.items ++ stages_of l.prefix-iterator ≡ stages_of l.entries.entries
