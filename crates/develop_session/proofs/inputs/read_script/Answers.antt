use Rattle.std.proofs.Common.{sym, ◌∙◌}
use Rattle.std.proofs.lemmas.Option.{IfSome_then}
use Rattle.develop_session.proofs.ReadLemmas.{has_script, has_bad_script}
use Rattle.develop_session.proofs.inputs.read_script.Goals as goal

pub returns-in-Ok-clause-script : goal.returns-in-Ok-clause-script
returns-in-Ok-clause-script g c =
    IfSome_then _ c.in_ok-bytes.ensures.content (λ fs content. has_script c.args.name.now fs _ c.in-Ok.script (λ text front. c.in-Ok.ensures.front text (front ∙ sym c.as_slice.ensures.value)) content)

pub returns-in-Err-Fault-clause-cause : goal.returns-in-Err-Fault-clause-cause
returns-in-Err-Fault-clause-cause g c =
    IfSome_then _ c.in_ok-bytes.ensures.content (λ fs content. has_bad_script c.args.name.now fs _ c.in-Err-Fault.fault (λ text front. rw c.in-Err-Fault.field-0-is at (c.in-Err-Fault.ensures.front text (front ∙ sym c.as_slice.ensures.value))) content)
