use Rattle.std.proofs.Common.{◌≡◌, ◌+◌, ◌++◌, ◌∷◌, [], ◌∙◌, ap, sym, subst, refl, arith, length}
use Rattle.std.specs.Arc.{arc_value}
use Rattle.journal.specs.declared.entry.Entry.TheVariants as entry
use Rattle.journal.specs.Desk.{May, IsSuperseded, next}
use Rattle.dev_core.proofs.DeskLemmas.{at_desk, keeps_asked}
use Rattle.dev_core.proofs.desk_state.DeskState.ask.Goals as goal

pub invariant_of-self-2 : goal.invariant_of-self-2
invariant_of-self-2 c =
    let s = c.self.inside in
    let j = c.make_room.new.self.items in
    let may = at_desk (arc_value s.subject) s.step_count s.journal s.frames s.desk s.histories _ (λ script d. May script d (entry.Asked (length d.tickets + 1) d.moment)) c.self.view_is c.self.invariant c.requires in
    let items = c.add.ensures.items ∙ ap (λ n. j ++ entry.Asked (n + 1) c.moment-moment.result ∷ []) c.ticket_count-2.ensures
    ∙ ap (λ m. j ++ entry.Asked (length s.desk.tickets + 1) m ∷ []) c.moment-moment.ensures in
    keeps_asked (arc_value s.subject) s.step_count s.journal s.frames s.desk s.histories c.self.invariant _ _ _ _ _ may c.make_room.ensures.items (omega (arith, c.in_ok-make_room.ensures.ok, c.ticket_count.ensures)) items c.add.ensures.room c.in_ok-ask.ensures.ok
