use Rattle.std.proofs.Common.{◌≡◌, ◌+◌, ◌++◌, ◌∷◌, [], ◌∙◌, ap, sym, subst, refl, arith, length}
use Rattle.std.specs.Arc.{arc_value}
use Rattle.journal.specs.declared.entry.Entry.TheVariants as entry
use Rattle.journal.specs.Desk.{May, IsSuperseded, next}
use Rattle.dev_core.proofs.DeskLemmas.{at_desk, keeps_took, present_is}
use Rattle.dev_core.proofs.desk_state.DeskState.take_pipe.Goals as goal

pub of-requires-clause-history : goal.of-requires-clause-history
of-requires-clause-history c =
    let s = c.self.inside in
    let present = present_is (arc_value s.subject) s.step_count s.desk s.histories c.self.invariant.stands in
    cc (present, c.in_ok-history.ensures, c.in_ok-subject.ensures, c.now.ensures, c.moment-moment.ensures)

pub invariant_of-self-2 : goal.invariant_of-self-2
invariant_of-self-2 c =
    let s = c.self.inside in
    let j = c.make_room.new.self.items in
    let p = c.args.pipe in
    let w = c.args.worker in
    let may = at_desk (arc_value s.subject) s.step_count s.journal s.frames s.desk s.histories _ (λ script d. May script d (entry.Took p w d.moment)) c.self.view_is c.self.invariant c.requires in
    let items = c.add.ensures.items ∙ ap (λ m. j ++ entry.Took p w m ∷ []) c.moment-moment.ensures in
    let after = c.note.ensures ∙ ap (λ m. next s.desk (entry.Took p w m)) c.moment-moment.ensures in
    keeps_took (arc_value s.subject) s.step_count s.journal s.frames s.desk s.histories c.self.invariant p w _ _ _ _ _ may c.make_room.ensures.items (omega (arith, c.in_ok-make_room.ensures.ok, c.ticket_count-room.ensures))
    items c.add.ensures.room c.make_room-2.ensures.items (omega (arith, c.in_ok-make_room-2.ensures.ok, c.ticket_count-room.ensures)) after
