use Rattle.std.proofs.Common.{ap, ◌∙◌, arith}
use Rattle.px.proofs.PaintedLemmas.{painted_of_rows}
use Rattle.px.proofs.painting.paint_in_turn.Goals as goal

pub returns : goal.returns
returns g c =
    let rows = c.rows_of-rows.ensures.rows in
    let size = c.channels.ensures in
    rw c.from_rows.ensures (painted_of_rows _ _ _ _ _ _ _ _ _ c.args.region _ c.fill_in_turn.new.values _
    (ap (λ r. r.x) rows) (ap (λ r. r.y) rows) (ap (λ r. r.w) rows) (ap (λ r. r.h) rows) (ap (λ r. r.size) rows ∙ size)
    (omega (arith, c.fill_in_turn.auto.values, c.deref_mut.ensures.len)) c.fill_in_turn.ensures.rows)
