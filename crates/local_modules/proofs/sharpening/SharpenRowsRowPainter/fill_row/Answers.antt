use Rattle.std.proofs.Common.{◌≡◌, ◌*◌, ap, ◌∙◌, arith}
use Rattle.px.specs.Kind.{channels}
use Rattle.local_modules.proofs.SharpLemmas.{sharpened_row}
use Rattle.local_modules.proofs.sharpening.SharpenRowsRowPainter.fill_row.Goals as goal

pub returns : goal.returns
returns c =
    let s = c.args.self.now in
    let first = c.requires.asks 0 (omega arith) in
    let size : c.args.n * channels s.input.now.kind ≡ c.args.n * 3 = ap (λ k. c.args.n * channels k) first.1 in
    let soft_size : c.args.n * channels s.blurred.now.kind ≡ c.args.n * 3 = ap (λ k. c.args.n * channels k) first.3 in
    record {
      row = sharpened_row s.amount s.input.now s.blurred.now c.args.x c.args.y c.args.n c.row.result.now c.row-2.result.now c.sharpen_row.new.row
          first.1 (omega (arith, first.0.left)) first.3 (omega (arith, first.2.left))
          (λ i below. c.row.ensures.values i (omega (arith, size))) (λ i below. c.row-2.ensures.values i (omega (arith, soft_size)))
          (c.sharpen_row.auto.row ∙ c.requires.len) (λ i below. c.sharpen_row.ensures.value i (omega (arith, c.requires.len)));
    }
