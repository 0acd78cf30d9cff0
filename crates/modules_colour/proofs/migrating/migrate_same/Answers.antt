use Rattle.std.proofs.Common.{sym, subst}
use Rattle.modules_colour.specs.Old.{MeansTheSame}
use Rattle.modules_colour.proofs.OldLemmas.{migrated_means}
use Rattle.modules_colour.proofs.migrating.migrate_same.Goals as goal

pub returns-clause-same : goal.returns-clause-same
returns-clause-same c = subst (MeansTheSame c.args.old.now) (sym c.migrate.ensures.value) (migrated_means c.args.old.now)
