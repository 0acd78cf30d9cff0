use Rattle.std.proofs.Common.{length, ap, arith}
use Rattle.px.proofs.CoverLemmas.{cover_of_rows, painted_of_rows}
use Rattle.px.proofs.covering.paint_cover.Goals as goal

pub from_rows-requires : goal.from_rows-requires
from_rows-requires g c =
    cover_of_rows c.args.region (g.P.RowPainter.gives c.args.painter.now) c.rows_of-rows.result c.fill_in_turn.new.values _ _ c.rows_of-rows.ensures.valid c.rows_of-rows.ensures.rows
    (omega (arith, c.fill_in_turn.auto.values, c.deref_mut.ensures.len)) (omega (arith, c.fill_in_turn.auto.values, ap length c.deref_mut.ensures.value, c.in_ok-values.ensures.len)) c.fill_in_turn.ensures.rows c.requires.gives

pub returns : goal.returns
returns g c =
    rw c.from_rows.ensures (painted_of_rows c.args.region (g.P.RowPainter.gives c.args.painter.now) c.rows_of-rows.result c.fill_in_turn.new.values _ _ c.rows_of-rows.ensures.rows
    (omega (arith, c.fill_in_turn.auto.values, c.deref_mut.ensures.len)) c.fill_in_turn.ensures.rows)
