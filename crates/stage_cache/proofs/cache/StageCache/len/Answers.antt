use Rattle.std.proofs.Common.{subst}
use Rattle.std.specs.Arc.{arc_value}
use Rattle.stage_cache.specs.StageCache.{IsStageCache}
use Rattle.stage_cache.proofs.FindLemmas.{cache_is}
use Rattle.stage_cache.proofs.cache.StageCache.len.Goals as goal

pub returns-clause-valid : goal.returns-clause-valid
returns-clause-valid c = subst IsStageCache c.self.view_is (cache_is c.self.inside.entries (arc_value c.self.inside.source) c.self.inside.used c.self.inside.budget c.len.ensures.valid c.self.invariant.1 c.self.invariant.2)
