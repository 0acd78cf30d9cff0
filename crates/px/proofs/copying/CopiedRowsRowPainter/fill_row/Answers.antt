use Rattle.std.proofs.Common.{sym, subst, arith}
use Rattle.px.specs.Copied.{IsCopied}
use Rattle.px.specs.Kind.{channels}
use Rattle.px.specs.Painted.{IsRow}
use Rattle.px.proofs.PixelLemmas.{copied_row}
use Rattle.px.proofs.copying.CopiedRowsRowPainter.fill_row.Goals as goal

pub returns : goal.returns
returns c =
    let p = c.args.self.now.plane.now in
    let first = c.requires.asks 0 (omega arith) in
    record {
      row = subst (λ r. IsRow (IsCopied p) c.args.x c.args.y (channels p.kind) c.args.n r) (sym c.copy_from_slice.ensures.after)
          (copied_row p c.args.x c.args.y c.args.n c.row.result.now (record { values = c.row.ensures.values; top = c.row.ensures.top }) (omega (arith, first.left)));
    }
