use Rattle.std.proofs.Common.{◌≡◌, refl, arith}
use Rattle.px.proofs.RowLemmas.{row_fits, rows_more}
use Rattle.local_modules.proofs.filling.fill_rows.Goals as goal

pub loop-j-preserved : goal.loop-j-preserved
loop-j-preserved c =
    let fits = row_fits c.loop-j.j c.args.rows c.args.cols 3 c.loop-j-test.true in
    let low = c.saturating_sub-next.ensures in
    let high = c.min-end.ensures in
    record {
      made = rows_more _ _ _ _ _ c.loop-j.j _ _ _ _ c.loop-j.invariant.made c.blur_row.ensures refl (omega arith) (omega arith) (omega arith);
      columns = c.move_rows.ensures;
      least = omega arith;
      first = omega arith;
      middle = omega arith;
      last = omega arith;
    }

pub returns : goal.returns
returns c = let all : c.loop-j.j ≡ c.args.rows = omega arith in rw all at c.loop-j.invariant.made
