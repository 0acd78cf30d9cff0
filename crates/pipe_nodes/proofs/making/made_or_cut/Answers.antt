use Rattle.std.proofs.Common.{subst}
use Rattle.std.specs.Prelude.{unwrap_or}
use Rattle.std.proofs.lemmas.Result.{IfOk-weaker}
use Rattle.px.specs.Cut.{IsCutOf}
use Rattle.pipe_nodes.proofs.making.made_or_cut.Goals as goal

pub returns-in-None-clause-cut : goal.returns-in-None-clause-cut
returns-in-None-clause-cut c =
    IfOk-weaker c.cut.result _ _ (λ o copy q part. copy q (subst (λ made. IsCutOf q (unwrap_or made c.args.input.now)) c.in-None.is part)) c.cut.ensures.cut
