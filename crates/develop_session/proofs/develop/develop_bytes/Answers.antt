use Rattle.std.proofs.Common.{ap, ◌∙◌}
use Rattle.std.proofs.lemmas.Result.{IfOk-weaker}
use Rattle.px.specs.Cut.{picture_of}
use Rattle.pnm.specs.Pnm.{written}
use Rattle.edit_steps.specs.declared.settings.Settings.{Settings}
use Rattle.edit_steps.specs.Script.{changes, history_at}
use Rattle.pipe_nodes.specs.Actives.{actives_of}
use Rattle.pipe_nodes.specs.Whole.{whole}
use Rattle.develop_session.proofs.PictureLemmas.{part_of_self}
use Rattle.develop_session.proofs.develop.develop_bytes.Goals as goal

pub returns-clause-wide : goal.returns-clause-wide
returns-clause-wide g c =
    let q = picture_of c.args.raster.now in
    let history = c.in_ok-history.ensures ∙ ap (history_at c.args.script.now) c.changes.ensures.count in
    IfOk-weaker c.developed_bytes.result _ _ (λ made wide. wide q (part_of_self c.args.raster.now) ∙ ap (λ h. (whole q 0 (actives_of h)).w) history) c.developed_bytes.ensures.wide

pub returns-clause-high : goal.returns-clause-high
returns-clause-high g c =
    let q = picture_of c.args.raster.now in
    let history = c.in_ok-history.ensures ∙ ap (history_at c.args.script.now) c.changes.ensures.count in
    IfOk-weaker c.developed_bytes.result _ _ (λ made high. high q (part_of_self c.args.raster.now) ∙ ap (λ h. (whole q 0 (actives_of h)).h) history) c.developed_bytes.ensures.high

pub returns-clause-bytes : goal.returns-clause-bytes
returns-clause-bytes g c =
    let script = c.args.script.now in
    let q = picture_of c.args.raster.now in
    let history = c.in_ok-history.ensures ∙ ap (history_at script) c.changes.ensures.count in
    IfOk-weaker c.developed_bytes.result _ _
    (λ made bytes. bytes q (part_of_self c.args.raster.now)
    ∙ ap (λ h. written (whole q 0 (actives_of h)) c.settings.result.now.depth) history
    ∙ ap (λ (s : Settings). written (whole q 0 (actives_of (history_at script (changes script)))) s.depth) c.settings.ensures.value)
    c.developed_bytes.ensures.bytes
