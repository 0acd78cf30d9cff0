use Rattle.std.proofs.Common.{◌≡◌, ◌≤◌, ◌+◌, Option, ◌++◌, ◌∷◌, [], ◌∙◌, ap, sym, subst, refl, arith, length}
use Rattle.std.specs.Arc.{arc_value}
use Rattle.journal.specs.declared.entry.Entry.TheVariants as entry
use Rattle.journal.specs.Desk.{May, IsSuperseded, next}
use Rattle.edit_steps.specs.Script.{changes, history_at}
use Rattle.journal.specs.declared.asking.Ask.{Ask}
use Rattle.journal.specs.Tickets.{ask_of, asked_moment}
use Rattle.std.specs.Option.{option_map_or}
use Rattle.journal.specs.declared.desk.TicketState.TheVariants.{Waiting}
use Rattle.journal.proofs.SlotLemmas.{numbered_within}
use Rattle.dev_core.specs.Subject.{SubjectSeen}
use Rattle.dev_core.proofs.DeskLemmas.{at_desk, keeps_ticket_took, ticket_there}
use Rattle.dev_core.proofs.desk_state.DeskState.take_ticket.Goals as goal

pub unreachable-requires : goal.unreachable-requires
unreachable-requires c =
    let s = c.self.inside in
    let may = at_desk (arc_value s.subject) s.step_count s.journal s.frames s.desk s.histories _ (λ script d. May script d (entry.TicketTook c.args.ticket c.args.worker)) c.self.view_is c.self.invariant c.requires in
    let script_is = c.script.ensures ∙ ap (λ (x : SubjectSeen). x.script) c.deref.ensures in
    ticket_there (arc_value s.subject) s.step_count s.desk s.histories c.args.ticket Waiting c.ask_of.result c.self.invariant.stands may.0
    (c.ask_of.ensures.ask ∙ ap (λ r. ask_of r c.args.ticket) script_is) c.in_default.not-Some

pub note-requires : goal.note-requires
note-requires c =
    let s = c.self.inside in
    let may = at_desk (arc_value s.subject) s.step_count s.journal s.frames s.desk s.histories _ (λ script d. May script d (entry.TicketTook c.args.ticket c.args.worker)) c.self.view_is c.self.invariant c.requires in
    (numbered_within s.desk.tickets c.args.ticket Waiting may.0).1

pub of-requires : goal.of-requires
of-requires c =
    let s = c.self.inside in
    let script_is = c.script.ensures ∙ ap (λ (x : SubjectSeen). x.script) c.deref.ensures in
    let script_too = c.script-2.ensures ∙ ap (λ (x : SubjectSeen). x.script) c.deref-2.ensures in
    let ours : (arc_value s.subject).script ≡ (arc_value c.in_ok-subject.subject).script = cc c.in_ok-subject.ensures in
    let asked : c.in-Some.ask.moment ≡ asked_moment c.script.result.now c.args.ticket = ap (λ (o : Option Ask). option_map_or (λ a. a.moment) o 0) c.in-Some.ensures.ask in
    record {
      moment = subst (λ r. c.in-Some.ask.moment ≤ changes r) (script_is ∙ ours) c.in-Some.ensures.moment;
      asked = asked ∙ ap (λ r. asked_moment r c.args.ticket) (script_is ∙ ours);
      history = c.in_ok-history.ensures ∙ ap (λ r. history_at r c.in-Some.ask.moment) (script_too ∙ ours);
    }

pub invariant_of-self-2 : goal.invariant_of-self-2
invariant_of-self-2 c =
    let s = c.self.inside in
    let may = at_desk (arc_value s.subject) s.step_count s.journal s.frames s.desk s.histories _ (λ script d. May script d (entry.TicketTook c.args.ticket c.args.worker)) c.self.view_is c.self.invariant c.requires in
    keeps_ticket_took (arc_value s.subject) s.step_count s.journal s.frames s.desk s.histories c.self.invariant c.args.ticket c.args.worker _ _ _ _ may c.make_room.ensures.items
    (omega (arith, c.in_ok-make_room.ensures.ok, c.ticket_count-room.ensures)) c.add.ensures.items c.add.ensures.room c.make_room-2.ensures.items
    (omega (arith, c.in_ok-make_room-2.ensures.ok, c.ticket_count-room.ensures)) c.note.ensures
