use Rattle.std.proofs.Common.{subst}
use Rattle.std.specs.Prelude.{unwrap_or}
use Rattle.std.proofs.lemmas.Result.{IfOk-weaker}
use Rattle.pipe_nodes.specs.Course.{IsLastLeg}
use Rattle.pipe_nodes.proofs.legs.run_written.Goals as goal

pub returns-in-Some-clause-bytes : goal.returns-in-Some-clause-bytes
returns-in-Some-clause-bytes g c =
    let input = g.I.Input.seen c.args.input.now in
    let last = c.in_ok-last.last in
    let leg = subst (λ made. IsLastLeg c.args.pieces.now c.args.course input last.pieces.now last.course (unwrap_or made input)) c.in-Some.is c.in_ok-last.ensures in
    IfOk-weaker c.run_bytes.result _ _ (λ made bytes q all. bytes q (λ o is. all o (leg.made o is))) c.run_bytes.ensures.bytes

pub returns-clause-bytes : goal.returns-clause-bytes
returns-clause-bytes g c =
    let input = g.I.Input.seen c.args.input.now in
    let last = c.in_ok-last.last in
    let leg = subst (λ made. IsLastLeg c.args.pieces.now c.args.course input last.pieces.now last.course (unwrap_or made input)) c.in-None.is c.in_ok-last.ensures in
    IfOk-weaker c.run_bytes-in-None.result _ _ (λ made bytes q all. bytes q (λ o is. all o (leg.made o is))) c.run_bytes-in-None.ensures.bytes
