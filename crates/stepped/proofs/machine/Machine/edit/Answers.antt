use Rattle.std.proofs.Common.{refl, sym, ◌∙◌}
use Rattle.dev_core.specs.DeskState.{now}
use Rattle.journal.specs.declared.entry.Entry.TheVariants as entry
use Rattle.stepped.proofs.DeskRowLemmas.{edited, all_made}
use Rattle.stepped.proofs.machine.Machine.edit.Goals as goal

pub invariant_of-self : goal.invariant_of-self
invariant_of-self c =
    let s = c.self.inside in
    edited s.desk c.close.new.self s.runs.items s.cache s.levels entry.Closed c.self.invariant
    (all_made s.desk.subject.script.steps (now s.desk).steps (sym c.step.ensures.step ∙ c.in_default.is) c.step.ensures.within, sym c.is_closed.ensures ∙ c.if-is_closed.false) refl c.close.ensures
