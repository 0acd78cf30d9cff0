use Rattle.std.proofs.Common.{◌≡◌, ◌+◌, ◌++◌, ◌∷◌, [], ◌∙◌, ap, sym, subst, refl, arith, length}
use Rattle.std.specs.Arc.{arc_value}
use Rattle.journal.specs.declared.entry.Entry.TheVariants as entry
use Rattle.journal.specs.Desk.{May, IsSuperseded, next}
use Rattle.dev_core.specs.DeskState.{DeskSeen, now}
use Rattle.dev_core.specs.Jobs.{OfPipe}
use Rattle.dev_core.specs.Subject.{SubjectSeen}
use Rattle.edit_steps.specs.Script.{history_at}
use Rattle.dev_core.proofs.DeskLemmas.{at_desk, keeps_restarted, present_is, of_pipe}
use Rattle.dev_core.proofs.desk_state.DeskState.restart.Goals as goal

pub begin_anew-requires-clause-history : goal.begin_anew-requires-clause-history
begin_anew-requires-clause-history c =
    let s = c.self.inside in
    let present = present_is (arc_value s.subject) s.step_count s.desk s.histories c.self.invariant.stands in
    let ours = c.requires.subject ∙ ap (λ (y : DeskSeen). y.subject) (sym c.self.view_is) in
    cc (present, ours, c.in_ok-history.ensures, c.now.ensures, c.moment-moment.ensures)

pub invariant_of-self-2 : goal.invariant_of-self-2
invariant_of-self-2 c =
    let s = c.self.inside in
    let v = c.args.self.now in
    let job = c.args.job.now in
    let p = c.in-Pipe.pipe in
    let j = c.make_room.new.self.items in
    let seen = of_pipe job.name p (λ q. IsSuperseded v.subject.script (now v) q job.worker job.moment) (sym c.name.ensures ∙ c.in-Pipe.is) c.requires.row in
    let row = at_desk (arc_value s.subject) s.step_count s.journal s.frames s.desk s.histories v (λ script d. IsSuperseded script d p job.worker job.moment) c.self.view_is c.self.invariant seen in
    let items = c.add.ensures.items ∙ ap (λ w. j ++ entry.Restarted p w c.moment-moment.result ∷ []) c.worker.ensures in
    let after = c.note.ensures ∙ ap (λ w. next s.desk (entry.Restarted p w c.moment-moment.result)) c.worker.ensures in
    keeps_restarted (arc_value s.subject) s.step_count s.journal s.frames s.desk s.histories c.self.invariant p job.worker c.moment-moment.result job.moment _ _ _ row c.moment-moment.ensures c.make_room.ensures.items (omega (arith, c.in_ok-make_room.ensures.ok, c.ticket_count.ensures)) items c.add.ensures.room after
