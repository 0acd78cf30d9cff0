use Rattle.std.proofs.Common.{subst}
use Rattle.params.specs.Ranges.{IsOldWithin}
use Rattle.params.specs.declared.old.OldParams.TheVariants as old
use Rattle.params.proofs.OldLemmas.{migrated_within}
use Rattle.params.proofs.old.migrate.Goals as goal

pub returns-in-ToneCurve1-clause-within : goal.returns-in-ToneCurve1-clause-within
returns-in-ToneCurve1-clause-within c = migrated_within (old.ToneCurve1 c.in-ToneCurve1.nodes) (subst IsOldWithin c.in-ToneCurve1.is c.requires.within)
