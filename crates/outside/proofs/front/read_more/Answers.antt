use Rattle.std.proofs.Common.{◌+◌, ◌-◌, replicate, vec_len, arith}
use Rattle.std.proofs.lemmas.Option.{IfSome_then}
use Rattle.std.proofs.lemmas.Grind.{common_steps}
use Rattle.outside.proofs.FrontLemmas.{longer_by_turn}
use Rattle.outside.proofs.front.read_more.Goals as goal

pub returns-clause-bytes : goal.returns-clause-bytes
returns-clause-bytes g c = IfSome_then _ c.in_ok-count.ensures.bytes (λ fs r. longer_by_turn _ _ (replicate (c.len-at.result + c.args.wanted - vec_len c.args.front.now) 0) _ _ _ (c.len-at.result + c.args.wanted) _
    (omega (arith, c.args.front.now.ok.0)) (omega arith) (omega (arith, c.read_behind.auto.buf, c.as_mut_slice.ensures.len, c.in_ok-resize.ensures.len)) (grind (arith, common_steps)) (grind (arith, common_steps)) r)
