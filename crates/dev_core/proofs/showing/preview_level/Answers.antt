use Rattle.dev_core.proofs.LevelLemmas.{preview-is}
use Rattle.dev_core.proofs.showing.preview_level.Goals as goal

pub returns-clause-level : goal.returns-clause-level
returns-clause-level c = preview-is c.args.w c.args.h c.args.side _ c.level_of_preview.ensures.level c.level_of_preview.ensures.few
