use Rattle.std.proofs.Common.{◌≡◌, ◌+◌, length, true, false, refl, sym, ap, ◌∙◌}
use Rattle.edit_steps.specs.Changes.{is_change}
use Rattle.journal.specs.Tickets.{is_ask, is_settle}
use Rattle.journal.specs.Desk.{is_settled}
use Rattle.journal.specs.declared.entry.Entry.TheVariants as entry
use Rattle.dev_core.specs.DeskState.{now}
use Rattle.stepped.specs.declared.answer.Answer.TheVariants as answer
use Rattle.stepped.proofs.DeskRowLemmas.{edited, next_is, edit_made, change_is, moment_behind, settle_left}
use Rattle.stepped.proofs.machine.Machine.make_step.Goals as goal

pub invariant_of-self-then-is_change : goal.invariant_of-self-then-is_change
invariant_of-self-then-is_change c =
    let s = c.self.inside in
    let on : is_change c.args.step ≡ true = sym c.is_change.ensures ∙ c.if-is_change.true in
    edited s.desk c.change.new.self s.runs.items s.cache s.levels (entry.Changed ((now s.desk).moment + 1)) c.self.invariant
    (next_is s.desk s.runs.items s.cache s.levels c.args.self.now c.args.step is_change c.self.view_is c.requires.step on, refl) refl c.in_ok-change.ensures.ok

pub returns-then-is_change : goal.returns-then-is_change
returns-then-is_change c =
    let s = c.self.inside in
    let m = (now s.desk).moment + 1 in
    let on : is_change c.args.step ≡ true = sym c.is_change.ensures ∙ c.if-is_change.true in
    edit_made s.desk c.change.new.self s.runs.items s.cache s.levels c.args.self.now c.args.step (entry.Changed m) (answer.Moment m) (answer.Moment c.moment.result) c.self.view_is c.requires.open c.requires.step
    (change_is s.desk.subject.script (now s.desk) c.args.step on) c.in_ok-change.ensures.ok (ap answer.Moment (moment_behind s.desk c.change.new.self m c.moment.result c.in_ok-change.ensures.ok c.moment.ensures.moment))

pub invariant_of-self-then-is_ask : goal.invariant_of-self-then-is_ask
invariant_of-self-then-is_ask c =
    let s = c.self.inside in
    let on : is_ask c.args.step ≡ true = sym c.is_ask.ensures ∙ c.if-is_ask.true in
    edited s.desk c.ask.new.self s.runs.items s.cache s.levels (entry.Asked (length (now s.desk).tickets + 1) (now s.desk).moment) c.self.invariant
    (next_is s.desk s.runs.items s.cache s.levels c.args.self.now c.args.step is_ask c.self.view_is c.requires.step on, refl, refl) refl c.in_ok-ticket.ensures.ok

pub settle-requires : goal.settle-requires
settle-requires c =
    let s = c.self.inside in
    let off : is_change c.args.step ≡ false = sym c.is_change.ensures ∙ c.if-is_change.false in
    let other : is_ask c.args.step ≡ false = sym c.is_ask.ensures ∙ c.if-is_ask.false in
    (next_is s.desk s.runs.items s.cache s.levels c.args.self.now c.args.step is_settle c.self.view_is c.requires.step (settle_left c.args.step off other), sym c.is_settled.ensures ∙ c.if-not-is_settled.false)

pub invariant_of-self-2 : goal.invariant_of-self-2
invariant_of-self-2 c =
    let s = c.self.inside in
    let off : is_change c.args.step ≡ false = sym c.is_change.ensures ∙ c.if-is_change.false in
    let other : is_ask c.args.step ≡ false = sym c.is_ask.ensures ∙ c.if-is_ask.false in
    edited s.desk c.settle.new.self s.runs.items s.cache s.levels entry.Settled c.self.invariant
    (next_is s.desk s.runs.items s.cache s.levels c.args.self.now c.args.step is_settle c.self.view_is c.requires.step (settle_left c.args.step off other), sym c.is_settled.ensures ∙ c.if-not-is_settled.false)
    refl c.in_ok-settle.ensures.ok
