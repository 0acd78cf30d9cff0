use Rattle.std.proofs.Common.{◌≡◌, ◌+◌, ◌-◌, ◌*◌, refl, arith}
use Rattle.px.proofs.RowLemmas.{row_more, adds_three}
use Rattle.modules_raw.proofs.PairLemmas.{two_more}
use Rattle.modules_raw.proofs.mosaic_rows.inner_row.Goals as goal

pub pixel_of_rows-left-requires-clause-asks : goal.pixel_of_rows-left-requires-clause-asks
pixel_of_rows-left-requires-clause-asks c =
    let e : c.args.lo + (c.args.x - c.args.lo + 2 * c.loop-j.j) ≡ c.args.x + c.loop-j.j * 2 = omega arith in
    rw e (c.requires.asks (c.loop-j.j * 2) (omega arith))

pub pixel_of_rows-right-requires-clause-asks : goal.pixel_of_rows-right-requires-clause-asks
pixel_of_rows-right-requires-clause-asks c =
    let e : c.args.lo + (c.args.x - c.args.lo + 2 * c.loop-j.j + 1) ≡ c.args.x + (c.loop-j.j * 2 + 1) = omega arith in
    rw e (c.requires.asks (c.loop-j.j * 2 + 1) (omega arith))

pub pixel_of_rows-pixel-requires-clause-asks : goal.pixel_of_rows-pixel-requires-clause-asks
pixel_of_rows-pixel-requires-clause-asks c =
    let e : c.args.lo + (c.args.x - c.args.lo + (c.args.n - 1)) ≡ c.args.x + (c.args.n - 1) = omega arith in
    rw e (c.requires.asks (c.args.n - 1) (omega arith))

pub loop-j-preserved : goal.loop-j-preserved
loop-j-preserved c =
    let e : c.args.lo + (c.args.x - c.args.lo + 2 * c.loop-j.j) ≡ c.args.x + c.loop-j.j * 2 = omega arith in
    let f : c.args.lo + (c.args.x - c.args.lo + 2 * c.loop-j.j + 1) ≡ c.args.x + (c.loop-j.j * 2 + 1) = omega arith in
    let left = rw e at c.pixel_of_rows-left.ensures in
    let right = rw f at c.pixel_of_rows-right.ensures in
    let all : (c.loop-j.j + 1) * 2 ≡ c.loop-j.j * 2 + 1 + 1 = omega arith in
    rw all (two_more _ _ _ (c.loop-j.j * 2) (c.loop-j.j * 6) (c.loop-j.j * 6 + 3) c.loop-j.row c.pixel_of_rows-left.result c.pixel_of_rows-right.result
    c.loop-j.invariant left left.top right right.top (omega arith) (omega arith) (omega arith))

pub returns : goal.returns
returns c =
    let e : c.args.lo + (c.args.x - c.args.lo + (c.args.n - 1)) ≡ c.args.x + (c.args.n - 1) = omega arith in
    let made = rw e at c.pixel_of_rows-pixel.ensures in
    let before : c.loop-j.j * 2 ≡ c.args.n - 1 = omega arith in
    let was = rw before at c.loop-j.invariant in
    let all : c.args.n - 1 + 1 ≡ c.args.n = omega arith in
    rw all at (row_more _ _ _ 3 (c.args.n - 1) _ c.pixel_of_rows-pixel.result _ was made made.top
    (adds_three (c.args.n - 1) ((c.args.n - 1) * 3) _ _ refl (omega arith)))
