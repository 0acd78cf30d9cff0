use Rattle.std.proofs.Common.{◌≡◌, ◌+◌, ◌++◌, ◌∷◌, [], ◌∙◌, ap, sym, subst, refl, arith, length}
use Rattle.std.specs.Arc.{arc_value}
use Rattle.journal.specs.declared.entry.Entry.TheVariants as entry
use Rattle.journal.specs.Desk.{May, IsSuperseded, next}
use Rattle.edit_steps.specs.Script.{Recipe, behind}
use Rattle.dev_core.specs.Subject.{SubjectSeen}
use Rattle.dev_core.proofs.DeskLemmas.{at_desk, keeps_changed, moment_small}
use Rattle.dev_core.proofs.desk_state.DeskState.change.Goals as goal

pub overflow_add-entry : goal.overflow_add-entry
overflow_add-entry c =
    let s = c.self.inside in
    omega (arith, c.moment.ensures, moment_small (arc_value s.subject) s.step_count s.desk s.histories c.self.invariant.stands)

pub invariant_of-self-2 : goal.invariant_of-self-2
invariant_of-self-2 c =
    let s = c.self.inside in
    let j = c.make_room.new.self.items in
    let may = at_desk (arc_value s.subject) s.step_count s.journal s.frames s.desk s.histories _ (λ script d. May script d (entry.Changed (d.moment + 1))) c.self.view_is c.self.invariant c.requires in
    let script_is = c.script-script.ensures ∙ ap (λ (x : SubjectSeen). x.script) c.deref.ensures in
    let present = c.in_ok-kind.ensures.behind ∙ ap (λ r. behind r (c.steps.result + 1)) script_is ∙ ap (λ n. behind (arc_value s.subject).script (n + 1)) c.steps.ensures in
    let items = c.add.ensures.items ∙ ap (λ m. j ++ entry.Changed (m + 1) ∷ []) c.moment.ensures in
    let after = c.note.ensures ∙ ap (λ m. next s.desk (entry.Changed (m + 1))) c.moment.ensures in
    keeps_changed (arc_value s.subject) s.step_count s.journal s.frames s.desk s.histories c.self.invariant _ _ _ _ may present c.make_room.ensures.items (omega (arith, c.in_ok-make_room.ensures.ok, c.ticket_count.ensures)) items c.add.ensures.room after
