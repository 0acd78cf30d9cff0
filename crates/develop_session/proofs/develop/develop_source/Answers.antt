use Rattle.std.proofs.Common.{◌≡◌, Some, subst}
use Rattle.std.proofs.lemmas.Option.{IfSome_then}
use Rattle.px.specs.Cut.{picture_of}
use Rattle.edit_steps.specs.declared.settings.Settings.{Settings}
use Rattle.pnm.specs.Fault.{fault_of}
use Rattle.pnm.specs.Pnm.{IsPicture}
use Rattle.develop_session.proofs.ReadLemmas.{has_bad_source, is_made}
use Rattle.develop_session.proofs.develop.develop_source.Goals as goal

pub returns-in-Ok-clause-made : goal.returns-in-Ok-clause-made
returns-in-Ok-clause-made g c =
    let q = picture_of c.in-Ok.raster in
    let bytes = c.in_ok-bytes.bytes.items in
    let shows = subst (λ (s : Settings). IsPicture bytes s.cfa q) c.settings.ensures.value (subst (λ t. IsPicture t c.settings.result.now.cfa q) c.as_slice.ensures.value c.in-Ok.ensures.picture) in
    let made = c.in_ok-develop_bytes-in-Ok.ensures in
    IfSome_then _ c.in_ok-bytes.ensures.content
    (λ fs content. is_made c.args.script.now c.args.name.now fs c.args.front bytes q _ _ _ shows made.wide made.high made.bytes content)

pub returns-clause-cause : goal.returns-clause-cause
returns-clause-cause g c =
    let bytes = c.in_ok-bytes.bytes.items in
    let refused = subst (λ (s : Settings). fault_of bytes s.cfa ≡ Some c.in-Err.fault) c.settings.ensures.value
    (subst (λ t. fault_of t c.settings.result.now.cfa ≡ Some c.in-Err.fault) c.as_slice.ensures.value c.in-Err.ensures.fault.0) in
    IfSome_then _ c.in_ok-bytes.ensures.content (λ fs content. has_bad_source c.args.name.now c.args.script.now.settings.cfa c.in-Err.fault fs c.args.front bytes c.requires.front refused content)
