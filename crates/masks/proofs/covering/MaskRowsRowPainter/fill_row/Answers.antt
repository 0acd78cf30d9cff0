use Rattle.std.proofs.Common.{◌≡◌, ◌+◌, arith}
use Rattle.masks.proofs.CoveringLemmas.{covering_row}
use Rattle.masks.proofs.covering.MaskRowsRowPainter.fill_row.Goals as goal

pub fill_shape-requires-clause-inside : goal.fill_shape-requires-clause-inside
fill_shape-requires-clause-inside c = let e : c.args.x + 0 ≡ c.args.x = omega arith in rw e at (c.requires.asks 0 (omega arith)).1

pub returns : goal.returns
returns c =
    let s = c.args.self.now in
    record {
      row = covering_row s.shape.now s.trace.now s.w s.h c.args.x c.args.y c.args.n c.fill_shape.new.row (omega (arith, c.fill_shape.auto.row)) c.fill_shape.ensures c.requires.gives;
    }
