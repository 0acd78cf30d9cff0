use Rattle.std.proofs.Common.{◌+◌, ◌-◌, ◌*◌, ◌≤◌, arith}
use Rattle.local_modules.specs.Running.{channel}
use Rattle.local_modules.proofs.RunningLemmas.{between_less, between_small}
use Rattle.local_modules.proofs.lines.slide.Goals as goal

pub overflow_sub-now : goal.overflow_sub-now
overflow_sub-now c = let e = between_less (channel c.args.sums.now c.args.k) c.loop-j.j c.args.b (omega arith) in omega (arith, e, c.loop-j.invariant, c.from-now.ensures)

pub loop-j-preserved : goal.loop-j-preserved
loop-j-preserved c = let e = between_less (channel c.args.sums.now c.args.k) c.loop-j.j c.args.b (omega arith) in omega (arith, e, c.loop-j.invariant, c.from-now.ensures)

pub overflow_add-now : goal.overflow_add-now
overflow_add-now c =
    let small = between_small c.args.sums.now c.args.k c.args.c c.loop-j-2.j 4294967295 (λ i. let f = c.type_inv.sums i in omega arith) in
    let n : c.loop-j-2.j - c.args.c ≤ 16384 = omega arith in
    omega (arith, small, n, c.loop-j-2.invariant, c.from-now-in-loop-j-2.ensures, c.type_inv.sums (c.loop-j-2.j * 3 + c.args.k))
