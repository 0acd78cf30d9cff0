use Rattle.std.proofs.lemmas.Option.{IfSome_then}
use Rattle.px.specs.Cut.{picture_of}
use Rattle.develop_session.proofs.ReadLemmas.{has_source, has_bad_source}
use Rattle.develop_session.proofs.inputs.read_source.Goals as goal

pub returns-in-Ok-clause-source : goal.returns-in-Ok-clause-source
returns-in-Ok-clause-source g c =
    IfSome_then _ c.in_ok-bytes.ensures.content (λ fs content. has_source c.args.name.now c.args.cfa fs c.args.front _ (picture_of c.in-Ok.plane) (rw (← c.as_slice.ensures.value) c.in-Ok.ensures.picture) content)

pub returns-in-Err-Fault-clause-cause : goal.returns-in-Err-Fault-clause-cause
returns-in-Err-Fault-clause-cause g c =
    IfSome_then _ c.in_ok-bytes.ensures.content (λ fs content. has_bad_source c.args.name.now c.args.cfa c.in-Err-Fault.fault fs c.args.front _ c.requires.front (rw (← c.as_slice.ensures.value) (rw c.in-Err-Fault.field-0-is at c.in-Err-Fault.ensures.fault).0) content)
