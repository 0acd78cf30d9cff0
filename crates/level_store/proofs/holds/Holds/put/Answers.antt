use Rattle.std.proofs.Common.{Some}
use Rattle.level_store.proofs.PassLemmas.{holds_by-set}
use Rattle.level_store.proofs.holds.Holds.put.Goals as goal

pub returns : goal.returns
returns c = holds_by-set c.self.inside.passes.items c.args.self.now c.args.worker c.replace-before.new.dest (Some c.args.pass) c.self.view_is c.replace-before.ensures.after
