use Rattle.std.proofs.Common.{sym, ap, subst, ◌∙◌}
use Rattle.desk.specs.Turns.{Entered}
use Rattle.desk.specs.Given.{name_in, taken}
use Rattle.desk.proofs.StepLemmas.{closed_before}
use Rattle.desk.proofs.turns.next_due.Goals as goal

pub returns-in-Some-clause-answer : goal.returns-in-Some-clause-answer
returns-in-Some-clause-answer c = (
  sym c.is_stopped.ensures ∙ c.if-is_stopped.false,
  c.in_ok-job.ensures.answer ∙ ap name_in c.in-Some.is,
)

pub returns-in-None-clause-answer : goal.returns-in-None-clause-answer
returns-in-None-clause-answer c = (
  sym c.is_stopped.ensures ∙ c.if-is_stopped.false,
  c.in_ok-job.ensures.answer ∙ ap name_in c.in-None.is,
  closed_before c.args.state.now c.take_due.new.state (subst (λ o. Entered c.args.state.now c.take_due.new.state (taken o)) c.in-None.is c.in_ok-job.ensures.entered) ∙ (sym c.is_closed.ensures ∙ c.if-is_closed.true),
)

pub returns-in-None-2-clause-answer : goal.returns-in-None-2-clause-answer
returns-in-None-2-clause-answer c = (
  sym c.is_stopped.ensures ∙ c.if-is_stopped.false,
  c.in_ok-job.ensures.answer ∙ ap name_in c.in-None.is,
  closed_before c.args.state.now c.take_due.new.state (subst (λ o. Entered c.args.state.now c.take_due.new.state (taken o)) c.in-None.is c.in_ok-job.ensures.entered) ∙ (sym c.is_closed.ensures ∙ c.if-is_closed.false),
)
