use Rattle.std.proofs.Common.{◌≡◌, ◌+◌, ◌++◌, ◌∷◌, [], ◌∙◌, ap, sym, subst, refl, arith, length}
use Rattle.std.specs.Arc.{arc_value}
use Rattle.journal.specs.declared.entry.Entry.TheVariants as entry
use Rattle.journal.specs.Desk.{May, IsSuperseded, next}
use Rattle.dev_core.proofs.DeskLemmas.{at_desk, keeps_closed}
use Rattle.dev_core.proofs.desk_state.DeskState.close.Goals as goal

pub invariant_of-self : goal.invariant_of-self
invariant_of-self c =
    let s = c.self.inside in
    let may = at_desk (arc_value s.subject) s.step_count s.journal s.frames s.desk s.histories _ (λ script d. May script d entry.Closed) c.self.view_is c.self.invariant c.requires in
    keeps_closed (arc_value s.subject) s.step_count s.journal s.frames s.desk s.histories c.self.invariant _ _ may c.add.ensures.items c.add.ensures.room c.note.ensures
