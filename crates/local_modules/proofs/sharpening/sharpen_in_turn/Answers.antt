use Rattle.std.proofs.Common.{subst}
use Rattle.std.proofs.lemmas.Result.{IfOk-weaker}
use Rattle.px.specs.Cut.{IsCutOf}
use Rattle.local_modules.specs.Sharpening.{sharpened_picture}
use Rattle.local_modules.proofs.sharpening.sharpen_in_turn.Goals as goal

pub returns-clause-cut : goal.returns-clause-cut
returns-clause-cut c =
    IfOk-weaker c.sharpen_by_in_turn.result _ _ (λ p cut q part. subst (λ r. IsCutOf (sharpened_picture r c.args.params.now.amount q) p) c.radius_at-r.ensures.value (cut q part)) c.sharpen_by_in_turn.ensures.cut
