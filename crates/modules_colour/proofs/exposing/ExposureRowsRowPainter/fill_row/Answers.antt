use Rattle.std.proofs.Common.{◌≡◌, ◌*◌, ap, ◌∙◌, arith}
use Rattle.px.specs.Kind.{channels}
use Rattle.modules_colour.proofs.ExposeLemmas.{exposed_row}
use Rattle.modules_colour.proofs.exposing.ExposureRowsRowPainter.fill_row.Goals as goal

pub returns : goal.returns
returns c =
    let s = c.args.self.now in
    let first = c.requires.asks 0 (omega arith) in
    let size : c.args.n * channels s.input.now.kind ≡ c.args.n * 3 = ap (λ k. c.args.n * channels k) first.1 in
    record {
      row = exposed_row s.params.now s.input.now c.args.x c.args.y c.args.n c.row.result.now c.expose_row.new.row first.1 (omega (arith, first.0.left))
          (λ i below. c.row.ensures.values i (omega (arith, size))) (c.expose_row.auto.row ∙ c.requires.len) (λ i below. c.expose_row.ensures i (omega (arith, c.requires.len)));
    }
