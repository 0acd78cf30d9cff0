use Rattle.std.proofs.Common.{None}
use Rattle.level_store.proofs.PassLemmas.{holds_by-set}
use Rattle.level_store.proofs.holds.Holds.take_read.Goals as goal

pub returns-clause-bare : goal.returns-clause-bare
returns-clause-bare c = holds_by-set c.self.inside.passes.items c.args.self.now c.args.worker c.replace.new.dest None c.self.view_is c.replace.ensures.after
