use Rattle.std.proofs.Common.{◌≡◌, true, sym, ◌∙◌}
use Rattle.edit_steps.specs.Changes.{is_change}
use Rattle.dev_core.specs.DeskState.{now}
use Rattle.desk.proofs.StepLemmas.{entered_change, edited_change, changed_moment, entered_ask}
use Rattle.desk.proofs.turns.make_step.Goals as goal

pub returns-then-is_change-clause-entered : goal.returns-then-is_change-clause-entered
returns-then-is_change-clause-entered c = entered_change c.args.state.now c.change.new.self c.moment.result c.in_ok-change.ensures.ok c.moment.ensures.moment

pub returns-then-is_change-clause-answer : goal.returns-then-is_change-clause-answer
returns-then-is_change-clause-answer c =
    let on : is_change c.args.step ≡ true = sym c.is_change.ensures ∙ c.if-is_change.true in
    edited_change c.args.state.now.subject.script (now c.args.state.now) c.args.step c.moment.result c.requires.open c.requires.step on
    (changed_moment c.args.state.now c.change.new.self c.moment.result c.in_ok-change.ensures.ok c.moment.ensures.moment)

pub returns-then-is_ask-clause-entered : goal.returns-then-is_ask-clause-entered
returns-then-is_ask-clause-entered c = entered_ask c.args.state.now c.ask.new.self c.in_ok-ticket.ticket c.in_ok-ticket.ensures.ok c.in_ok-ticket.ensures.ticket
