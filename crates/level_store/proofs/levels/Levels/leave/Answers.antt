use Rattle.std.proofs.Common.{sym, subst}
use Rattle.level_store.specs.Agreement.{Agree}
use Rattle.level_store.proofs.AgreeLemmas.{agree_left}
use Rattle.level_store.proofs.levels.Levels.leave.Goals as goal

pub invariant_of-self : goal.invariant_of-self
invariant_of-self c =
    subst (Agree c.leave.new.self.entries) (sym c.take_read.ensures.bare)
    (agree_left c.self.inside.mips.entries c.leave.new.self.entries c.self.inside.holds c.args.worker c.take_read.result.level c.self.invariant c.take_read.ensures.held
    c.leave.ensures.held c.leave.ensures.others)
