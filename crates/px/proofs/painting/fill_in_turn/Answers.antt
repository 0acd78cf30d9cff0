use Rattle.std.proofs.Common.{refl, arith}
use Rattle.std.proofs.Math.Nat.{mul-le-mul_left}
use Rattle.px.proofs.RowLemmas.{row_fits, rows_more}
use Rattle.px.proofs.painting.fill_in_turn.Goals as goal

pub overflow_mul-stride : goal.overflow_mul-stride
overflow_mul-stride g c = omega (arith, mul-le-mul_left c.args.rows.w c.requires.small)

pub slice_bounds-fill_nth-end : goal.slice_bounds-fill_nth-end
slice_bounds-fill_nth-end g c =
    omega (arith, row_fits c.loop-j.j c.args.rows.h c.args.rows.w c.args.rows.size c.loop-j-test.true)

pub loop-j-preserved : goal.loop-j-preserved
loop-j-preserved g c =
    let fits = row_fits c.loop-j.j c.args.rows.h c.args.rows.w c.args.rows.size c.loop-j-test.true in
    rows_more _ _ _ _ _ c.loop-j.j _ _ _ _ c.loop-j.invariant c.fill_nth.ensures.row refl (omega arith) (omega arith) (omega arith)
