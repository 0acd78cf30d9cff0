use Rattle.std.proofs.lemmas.Result.{IfOk-weaker}
use Rattle.pipe_nodes.proofs.apply.tone_curve.Goals as goal

pub returns-clause-cut : goal.returns-clause-cut
returns-clause-cut c = IfOk-weaker c.curve_in_turn.result _ _ (λ p made q part. made c.args.settings.now q c.table.ensures part) c.curve_in_turn.ensures.cut
