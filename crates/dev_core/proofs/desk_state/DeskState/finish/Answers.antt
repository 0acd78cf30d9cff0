use Rattle.std.proofs.Common.{◌≡◌, ◌+◌, ◌++◌, ◌∷◌, [], ◌∙◌, ap, sym, subst, refl, arith, length}
use Rattle.std.specs.Arc.{arc_value}
use Rattle.journal.specs.declared.entry.Entry.TheVariants as entry
use Rattle.journal.specs.Desk.{May, CanNote, next}
use Rattle.dev_core.specs.DeskState.{DeskSeen}
use Rattle.dev_core.specs.Jobs.{IsMomentOf, done_entry, back_entry, frame_of, job_seen}
use Rattle.dev_core.specs.Subject.{SubjectSeen}
use Rattle.dev_core.proofs.DeskLemmas.{at_desk, keeps_done, can_note_done}
use Rattle.dev_core.proofs.RoomLemmas.{owed_done, out_done}
use Rattle.dev_core.proofs.desk_state.DeskState.finish.Goals as goal

pub add-requires : goal.add-requires
add-requires c =
    let s = c.self.inside in
    let j = c.args.job in
    let may = at_desk (arc_value s.subject) s.step_count s.journal s.frames s.desk s.histories _ (λ script d. May script d (done_entry j.name j.worker j.moment)) c.self.view_is c.self.invariant c.requires.row in
    omega (arith, owed_done (arc_value s.subject).script s.desk j.name j.worker j.moment c.self.invariant.stands.slots may, c.self.invariant.room)

pub add-requires-2 : goal.add-requires-2
add-requires-2 c =
    let s = c.self.inside in
    let j = c.args.job in
    let may = at_desk (arc_value s.subject) s.step_count s.journal s.frames s.desk s.histories _ (λ script d. May script d (done_entry j.name j.worker j.moment)) c.self.view_is c.self.invariant c.requires.row in
    omega (arith, out_done (arc_value s.subject).script s.desk j.name j.worker j.moment c.self.invariant.stands.slots may, c.self.invariant.frame_room)

pub note-requires : goal.note-requires
note-requires c =
    let s = c.self.inside in
    let j = c.args.job in
    let may = at_desk (arc_value s.subject) s.step_count s.journal s.frames s.desk s.histories _ (λ script d. May script d (done_entry j.name j.worker j.moment)) c.self.view_is c.self.invariant c.requires.row in
    let is = c.done_entry-entry.ensures ∙ ap (λ n. done_entry n c.worker.result c.moment.result) c.name.ensures
    ∙ ap (λ w. done_entry j.name w c.moment.result) c.worker.ensures ∙ ap (λ m. done_entry j.name j.worker m) c.moment.ensures.moment in
    subst (CanNote s.desk) (sym is) (can_note_done (arc_value s.subject).script s.desk j.name j.worker j.moment may)

pub invariant_of-self : goal.invariant_of-self
invariant_of-self c =
    let s = c.self.inside in
    let j = c.args.job in
    let may = at_desk (arc_value s.subject) s.step_count s.journal s.frames s.desk s.histories _ (λ script d. May script d (done_entry j.name j.worker j.moment)) c.self.view_is c.self.invariant c.requires.row in
    let is = c.done_entry-entry.ensures ∙ ap (λ n. done_entry n c.worker.result c.moment.result) c.name.ensures
    ∙ ap (λ w. done_entry j.name w c.moment.result) c.worker.ensures ∙ ap (λ m. done_entry j.name j.worker m) c.moment.ensures.moment in
    let ours = c.requires.subject ∙ ap (λ (y : DeskSeen). y.subject) (sym c.self.view_is) in
    let asked = subst (IsMomentOf (arc_value s.subject).script j.name) c.moment.ensures.moment (subst (λ (x : SubjectSeen). IsMomentOf x.script j.name c.moment.result) ours c.moment.ensures.asked) in
    let frame = c.requires.frame ∙ ap (λ (x : SubjectSeen). frame_of (job_seen x j.name j.worker j.moment)) ours in
    keeps_done (arc_value s.subject) s.step_count s.journal s.frames s.desk s.histories c.self.invariant j.name j.worker j.moment c.args.frame _ _ _ may asked frame
    (c.add.ensures.items ∙ ap (λ e. s.journal.items ++ e ∷ []) is) c.add.ensures.room c.add-2.ensures.items c.add-2.ensures.room (c.note.ensures ∙ ap (next s.desk) is)
