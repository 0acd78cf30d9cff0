use Rattle.std.proofs.Common.{◌≡◌, ◌+◌, ◌-◌, ◌*◌, ◌/◌, ◌∷◌, [], ◌≤◌, ◌∙◌, ap, min, refl, arith, lit<}
use Rattle.px.proofs.RowLemmas.{row_more, adds_three}
use Rattle.local_modules.proofs.RunningLemmas.{mean_small, mean_is, some_in_box, few_in_box, three_small, of_three}
use Rattle.local_modules.proofs.filling.blur_row.Goals as goal

pub of-whole-requires : goal.of-whole-requires
of-whole-requires c =
    let odd : c.from.result ≡ 2 * c.args.s.r + 1 = c.from.ensures in
    let rows : c.from-rows.result ≡ c.args.b - c.args.a = c.from-rows.ensures in
    record {
      some = some_in_box c.from.result c.from-rows.result (omega arith) (omega arith);
      few = few_in_box c.from.result c.from-rows.result (omega arith) (omega arith);
    }

pub mean-requires-clause-small : goal.mean-requires-clause-small
mean-requires-clause-small c = rw c.or_of-by.ensures.n
    (mean_small c.args._input.now c.args.s.lo (c.args.s.m * 3) c.args.a c.args.b (c.saturating_sub-in-loop-k.result - c.args.s.lo) (c.min-in-loop-k.result - c.args.s.lo) 0
    c.step-red.result c.from-in-loop-k.result c.from-rows.result c.args.sums.now c.requires.valid (lit< tt) c.requires.sums
    (omega (arith, c.saturating_sub-in-loop-k.ensures, c.min-in-loop-k.ensures)) (omega (arith, c.min-in-loop-k.ensures)) c.step-red.ensures c.from-in-loop-k.ensures c.from-rows.ensures)

pub mean-requires-in-loop-k-clause-small : goal.mean-requires-in-loop-k-clause-small
mean-requires-in-loop-k-clause-small c = rw c.or_of-by.ensures.n
    (mean_small c.args._input.now c.args.s.lo (c.args.s.m * 3) c.args.a c.args.b (c.saturating_sub-in-loop-k.result - c.args.s.lo) (c.min-in-loop-k.result - c.args.s.lo) 1
    c.step-green.result c.from-in-loop-k.result c.from-rows.result c.args.sums.now c.requires.valid (lit< tt) c.requires.sums
    (omega (arith, c.saturating_sub-in-loop-k.ensures, c.min-in-loop-k.ensures)) (omega (arith, c.min-in-loop-k.ensures)) c.step-green.ensures c.from-in-loop-k.ensures c.from-rows.ensures)

pub mean-requires-in-loop-k-2-clause-small : goal.mean-requires-in-loop-k-2-clause-small
mean-requires-in-loop-k-2-clause-small c = rw c.or_of-by.ensures.n
    (mean_small c.args._input.now c.args.s.lo (c.args.s.m * 3) c.args.a c.args.b (c.saturating_sub-in-loop-k.result - c.args.s.lo) (c.min-in-loop-k.result - c.args.s.lo) 2
    c.step-blue.result c.from-in-loop-k.result c.from-rows.result c.args.sums.now c.requires.valid (lit< tt) c.requires.sums
    (omega (arith, c.saturating_sub-in-loop-k.ensures, c.min-in-loop-k.ensures)) (omega (arith, c.min-in-loop-k.ensures)) c.step-blue.ensures c.from-in-loop-k.ensures c.from-rows.ensures)

pub loop-k-preserved : goal.loop-k-preserved
loop-k-preserved c =
    let p = c.args._input.now in
    let next = c.saturating_sub-in-loop-k.result - c.args.s.lo in
    let end = c.min-in-loop-k.result - c.args.s.lo in
    let low = c.saturating_sub-in-loop-k.ensures in
    let high = c.min-in-loop-k.ensures in
    let next_is : c.args.s.lo + next ≡ c.args.x + c.loop-k.k - c.args.s.r = omega arith in
    let end_is : c.args.s.lo + end ≡ min (c.args.x + c.loop-k.k + c.args.s.r + 1) c.args.s.w = omega arith in
    let fits : end * 3 ≤ c.args.s.m * 3 = omega arith in
    let red = mean_is p c.args.s.r c.args.s.w c.args.s.h c.args.s.lo (c.args.s.m * 3) c.args.a c.args.b (c.args.x + c.loop-k.k) c.args.y 0 next end
    c.step-red.result c.from-in-loop-k.result c.from-rows.result c.mean.result c.args.sums.now c.requires.rgb c.requires.left (lit< tt) c.requires.sums
    c.requires.first c.requires.last (omega arith) (omega arith) next_is end_is fits c.step-red.ensures c.from-in-loop-k.ensures c.from-rows.ensures (c.mean.ensures.mean ∙ ap (λ n. c.step-red.result / n) c.or_of-by.ensures.n) in
    let green = mean_is p c.args.s.r c.args.s.w c.args.s.h c.args.s.lo (c.args.s.m * 3) c.args.a c.args.b (c.args.x + c.loop-k.k) c.args.y 1 next end
    c.step-green.result c.from-in-loop-k.result c.from-rows.result c.mean-in-loop-k.result c.args.sums.now c.requires.rgb c.requires.left (lit< tt) c.requires.sums
    c.requires.first c.requires.last (omega arith) (omega arith) next_is end_is fits c.step-green.ensures c.from-in-loop-k.ensures c.from-rows.ensures (c.mean-in-loop-k.ensures.mean ∙ ap (λ n. c.step-green.result / n) c.or_of-by.ensures.n) in
    let blue = mean_is p c.args.s.r c.args.s.w c.args.s.h c.args.s.lo (c.args.s.m * 3) c.args.a c.args.b (c.args.x + c.loop-k.k) c.args.y 2 next end
    c.step-blue.result c.from-in-loop-k.result c.from-rows.result c.mean-in-loop-k-2.result c.args.sums.now c.requires.rgb c.requires.left (lit< tt) c.requires.sums
    c.requires.first c.requires.last (omega arith) (omega arith) next_is end_is fits c.step-blue.ensures c.from-in-loop-k.ensures c.from-rows.ensures (c.mean-in-loop-k-2.ensures.mean ∙ ap (λ n. c.step-blue.result / n) c.or_of-by.ensures.n) in
    let top = three_small c.mean.result c.mean-in-loop-k.result c.mean-in-loop-k-2.result c.mean.ensures.top c.mean-in-loop-k.ensures.top c.mean-in-loop-k-2.ensures.top in
    record {
      made = row_more _ _ _ 3 _ _ (c.mean.result ∷ c.mean-in-loop-k.result ∷ c.mean-in-loop-k-2.result ∷ []) _ c.loop-k.invariant.made
          (record { pixel = of_three _ _ _ _ _ _ red green blue; top = top }) top
          (adds_three c.loop-k.k (c.loop-k.k * 3) _ _ refl (omega arith));
      red_is = c.step-red.ensures;
      green_is = c.step-green.ensures;
      blue_is = c.step-blue.ensures;
      first = omega arith;
      near = omega arith;
      late = omega arith;
      middle = omega arith;
      last = omega arith;
    }
