use Rattle.std.proofs.Common.{sym, ◌∙◌, subst}
use Rattle.std.proofs.lemmas.Result.{IfOk-weaker}
use Rattle.px.specs.Cut.{IsCutOf}
use Rattle.modules_raw.specs.Demosaic.{demosaiced_by}
use Rattle.modules_raw.proofs.demosaicing.demosaic_in_turn.Goals as goal

pub returns-in-Mosaic-clause-cut : goal.returns-in-Mosaic-clause-cut
returns-in-Mosaic-clause-cut c =
    IfOk-weaker c.demosaic_mosaic_in_turn.result _ _ (λ p cut q part.
    subst (λ k. IsCutOf (demosaiced_by k q) p) (sym (sym part.kind ∙ (sym c.kind.ensures ∙ c.in-Mosaic.is))) (cut q part)) c.demosaic_mosaic_in_turn.ensures.cut

pub returns-in-Rgb-clause-cut : goal.returns-in-Rgb-clause-cut
returns-in-Rgb-clause-cut c =
    IfOk-weaker c.cut.result _ _ (λ p cut q part.
    subst (λ k. IsCutOf (demosaiced_by k q) p) (sym (sym part.kind ∙ (sym c.kind.ensures ∙ c.in-Rgb.is))) (cut q part)) c.cut.ensures.cut
