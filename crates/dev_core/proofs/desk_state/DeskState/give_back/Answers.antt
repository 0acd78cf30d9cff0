use Rattle.std.proofs.Common.{◌≡◌, ◌+◌, ◌++◌, ◌∷◌, [], ◌∙◌, ap, sym, subst, refl, arith, length}
use Rattle.std.specs.Arc.{arc_value}
use Rattle.journal.specs.declared.entry.Entry.TheVariants as entry
use Rattle.journal.specs.Desk.{May, CanNote, next}
use Rattle.dev_core.specs.DeskState.{DeskSeen}
use Rattle.dev_core.specs.Jobs.{IsMomentOf, done_entry, back_entry, frame_of, job_seen}
use Rattle.dev_core.specs.Subject.{SubjectSeen}
use Rattle.dev_core.proofs.DeskLemmas.{at_desk, keeps_back, can_note_back}
use Rattle.dev_core.proofs.RoomLemmas.{owed_back}
use Rattle.dev_core.proofs.desk_state.DeskState.give_back.Goals as goal

pub add-requires : goal.add-requires
add-requires c =
    let s = c.self.inside in
    let j = c.args.job in
    let may = at_desk (arc_value s.subject) s.step_count s.journal s.frames s.desk s.histories _ (λ script d. May script d (back_entry j.name j.worker)) c.self.view_is c.self.invariant c.requires.row in
    omega (arith, owed_back (arc_value s.subject).script s.desk j.name j.worker c.self.invariant.stands.slots may, c.self.invariant.room)

pub note-requires : goal.note-requires
note-requires c =
    let s = c.self.inside in
    let j = c.args.job in
    let may = at_desk (arc_value s.subject) s.step_count s.journal s.frames s.desk s.histories _ (λ script d. May script d (back_entry j.name j.worker)) c.self.view_is c.self.invariant c.requires.row in
    let is = c.back_entry-entry.ensures ∙ ap (λ n. back_entry n c.worker.result) c.name.ensures ∙ ap (λ w. back_entry j.name w) c.worker.ensures in
    subst (CanNote s.desk) (sym is) (can_note_back (arc_value s.subject).script s.desk j.name j.worker may)

pub invariant_of-self : goal.invariant_of-self
invariant_of-self c =
    let s = c.self.inside in
    let j = c.args.job in
    let may = at_desk (arc_value s.subject) s.step_count s.journal s.frames s.desk s.histories _ (λ script d. May script d (back_entry j.name j.worker)) c.self.view_is c.self.invariant c.requires.row in
    let is = c.back_entry-entry.ensures ∙ ap (λ n. back_entry n c.worker.result) c.name.ensures ∙ ap (λ w. back_entry j.name w) c.worker.ensures in
    keeps_back (arc_value s.subject) s.step_count s.journal s.frames s.desk s.histories c.self.invariant j.name j.worker _ _ may (c.add.ensures.items ∙ ap (λ e. s.journal.items ++ e ∷ []) is) c.add.ensures.room (c.note.ensures ∙ ap (next s.desk) is)
