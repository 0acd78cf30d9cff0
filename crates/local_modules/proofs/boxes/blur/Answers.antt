use Rattle.std.proofs.lemmas.Result.{IfOk-weaker}
use Rattle.local_modules.specs.Blurring.{blurred_picture}
use Rattle.local_modules.proofs.boxes.blur.Goals as goal

pub returns-clause-cut : goal.returns-clause-cut
returns-clause-cut g c =
    IfOk-weaker c.paint_bands.result _ _ (λ p made q part. made.cut (blurred_picture c.args.r q) (λ r b covers given. given.1.1 q part)) c.paint_bands.ensures
