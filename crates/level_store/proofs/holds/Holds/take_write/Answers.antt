use Rattle.std.proofs.Common.{None, ◌∙◌, ap, sym, Some}
use Rattle.level_store.proofs.PassLemmas.{holds_by-set, own_pass}
use Rattle.level_store.proofs.holds.Holds.take_write.Goals as goal

pub returns-clause-own : goal.returns-clause-own
returns-clause-own c =
    own_pass c.self.inside.passes.items c.args.self.now c.args.worker c.index_mut.result.now c.in-Some-Write.pass c.self.invariant c.self.view_is c.requires
    c.index_mut.ensures.value (sym c.in-Some-Write.ensures.value ∙ ap Some c.in-Some-Write.field-0-is)

pub returns-clause-bare : goal.returns-clause-bare
returns-clause-bare c = holds_by-set c.self.inside.passes.items c.args.self.now c.args.worker c.replace.new.dest None c.self.view_is c.replace.ensures.after
