use Rattle.params.proofs.RowLemmas.{plain_at}
use Rattle.params.proofs.row_form.plain_parts.Goals as goal

pub plain_cell-requires : goal.plain_cell-requires
plain_cell-requires c = plain_at c.args.row.now c.loop-cell.cell-index _ c.requires c.loop-cell-test.true
