use Rattle.dev_core.proofs.LevelLemmas.{thumbnail-is}
use Rattle.dev_core.proofs.showing.thumbnail_level.Goals as goal

pub returns-clause-level : goal.returns-clause-level
returns-clause-level c = thumbnail-is c.args.w c.args.h c.args.size _ c.level_of_thumbnail.ensures.level c.level_of_thumbnail.ensures.few
