use Rattle.std.proofs.Common.{◌≡◌, ◌+◌, ap, arith}
use Rattle.local_modules.specs.Running.{channel, between}
use Rattle.local_modules.proofs.RunningLemmas.{between_less}
use Rattle.local_modules.proofs.lines.drop_first.Goals as goal

pub overflow_sub-result : goal.overflow_sub-result
overflow_sub-result c = let e = between_less (channel c.args.sums.now c.args.k) c.args.a c.args.b (omega arith) in omega (arith, e, c.requires.was, c.from.ensures)

pub returns : goal.returns
returns c =
    let e = between_less (channel c.args.sums.now c.args.k) c.args.a c.args.b (omega arith) in
    let n : c.args.a + 1 ≡ c.args.c = omega arith in
    let f = ap (λ m. between (channel c.args.sums.now c.args.k) m c.args.b) n in
    omega (arith, e, f, c.requires.was, c.from.ensures)
