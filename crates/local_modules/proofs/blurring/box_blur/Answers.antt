use Rattle.std.proofs.Common.{subst}
use Rattle.std.proofs.lemmas.Result.{IfOk-weaker}
use Rattle.px.specs.Cut.{IsCutOf}
use Rattle.local_modules.specs.Blurring.{blurred_picture}
use Rattle.local_modules.proofs.blurring.box_blur.Goals as goal

pub returns-clause-cut : goal.returns-clause-cut
returns-clause-cut g c =
    IfOk-weaker c.blur.result _ _ (λ p cut q part. subst (λ r. IsCutOf (blurred_picture r q) p) c.radius_at.ensures.value (cut q part)) c.blur.ensures.cut
