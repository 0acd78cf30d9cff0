use Rattle.std.proofs.Common.{◌+◌, ◌-◌, ◌*◌, ◌≤◌, arith}
use Rattle.local_modules.proofs.RunningLemmas.{between_small}
use Rattle.local_modules.proofs.lines.take_last.Goals as goal

pub overflow_add-result : goal.overflow_add-result
overflow_add-result c =
    let small = between_small c.args.sums.now c.args.k c.args.c c.args.b 4294967295 (λ i. let f = c.type_inv.sums i in omega arith) in
    let n : c.args.b - c.args.c ≤ 16384 = omega arith in
    omega (arith, small, n, c.requires.was, c.from.ensures, c.type_inv.sums (c.args.b * 3 + c.args.k))
