use Rattle.std.proofs.Common.{subst, sym}
use Rattle.px.specs.Painted.{IsRow}
use Rattle.modules_geometry.specs.Moved.{IsMoved}
use Rattle.modules_geometry.proofs.MovedLemmas.{held-first, held-last, beside-row}
use Rattle.modules_geometry.proofs.moved_rows.fill_beside.Goals as goal

pub row-requires-clause-first : goal.row-requires-clause-first
row-requires-clause-first c = held-first c.args.input.now c.args.trace c.args.x c.args.y c.args.n c.of-u.result.0 c.of-u.result.1 c.requires.some c.requires.held c.of-u.ensures

pub row-requires-clause-last : goal.row-requires-clause-last
row-requires-clause-last c = held-last c.args.input.now c.args.trace c.args.x c.args.y c.args.n c.of-u.result.0 c.of-u.result.1 c.requires.some c.requires.unswapped c.requires.unflipped c.requires.held c.of-u.ensures

pub returns : goal.returns
returns c =
    let p = c.args.input.now in
    let first = held-first p c.args.trace c.args.x c.args.y c.args.n c.of-u.result.0 c.of-u.result.1 c.requires.some c.requires.held c.of-u.ensures in
    subst (λ r. IsRow (IsMoved p c.args.trace) c.args.x c.args.y 3 c.args.n r) (sym c.copy_from_slice.ensures.after)
    (beside-row p c.args.trace c.args.x c.args.y c.of-u.result.0 c.of-u.result.1 c.args.n c.row.result.now (c.requires.held 0 c.requires.some).rgb c.requires.unswapped c.requires.unflipped c.of-u.ensures
    first.left (record { values = c.row.ensures.values; top = c.row.ensures.top }))
