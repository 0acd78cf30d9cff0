use Rattle.std.proofs.Common.{subst}
use Rattle.std.specs.Prelude.{unwrap_or}
use Rattle.std.proofs.lemmas.Result.{IfOk-weaker}
use Rattle.px.specs.Cut.{IsCutOf}
use Rattle.pipe_nodes.proofs.bands.narrowed.Goals as goal

pub returns-else-eq-clause-cut : goal.returns-else-eq-clause-cut
returns-else-eq-clause-cut c =
    IfOk-weaker c.cut.result _ _ (λ p copy q part. copy q (subst (λ made. IsCutOf q (unwrap_or made c.args.before.now)) c.in-Some.is part)) c.cut.ensures.cut

pub returns-in-None-clause-cut : goal.returns-in-None-clause-cut
returns-in-None-clause-cut c =
    IfOk-weaker c.cut-in-None.result _ _ (λ p copy q part. copy q (subst (λ made. IsCutOf q (unwrap_or made c.args.before.now)) c.in-None.is part)) c.cut-in-None.ensures.cut
