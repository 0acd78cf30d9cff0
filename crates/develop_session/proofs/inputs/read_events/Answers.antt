use Rattle.std.proofs.Common.{sym, ◌∙◌}
use Rattle.std.proofs.lemmas.Option.{IfSome_then}
use Rattle.develop_session.proofs.ReadLemmas.{has_events, has_bad_events, events_fail}
use Rattle.develop_session.proofs.inputs.read_events.Goals as goal

pub returns-in-Ok-clause-events : goal.returns-in-Ok-clause-events
returns-in-Ok-clause-events g c =
    IfSome_then _ c.in_ok-bytes.ensures.content (λ fs content. has_events c.args.name.now fs _ c.in-Ok.events.items (λ text front. c.in-Ok.ensures.front text (front ∙ sym c.as_slice.ensures.value)) content)

pub returns-in-Err-Fault-clause-cause : goal.returns-in-Err-Fault-clause-cause
returns-in-Err-Fault-clause-cause g c =
    events_fail c.args.name.now _ _ (Unit {0}) c.in-Err-Fault.fault (rw c.in-Err-Fault.field-0-is at c.in-Err-Fault.ensures.answer)
    (IfSome_then _ c.in_ok-bytes.ensures.content (λ fs content. has_bad_events c.args.name.now fs _ c.in-Err-Fault.fault (λ text front. rw c.in-Err-Fault.field-0-is at (c.in-Err-Fault.ensures.front text (front ∙ sym c.as_slice.ensures.value))) content))
