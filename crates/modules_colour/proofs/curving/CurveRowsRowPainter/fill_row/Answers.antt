use Rattle.std.proofs.Common.{◌≡◌, ◌*◌, ap, arith}
use Rattle.px.specs.Kind.{channels}
use Rattle.px.proofs.MadeLemmas.{row_of_made}
use Rattle.modules_colour.specs.Curving.{Tables, looked_up}
use Rattle.modules_colour.proofs.curving.CurveRowsRowPainter.fill_row.Goals as goal

pub returns : goal.returns
returns c =
    let s = c.args.self.now in
    let first = c.requires.asks 0 (omega arith) in
    let size : c.args.n * channels s.input.now.kind ≡ c.args.n * 3 = ap (λ k. c.args.n * channels k) first.1 in
    let tables : Tables = record { red = s.red.now; green = s.green.now; blue = s.blue.now } in
    record {
      row = row_of_made (looked_up tables) s.input.now c.args.x c.args.y c.args.n c.row.result.now c.look_up_row.new.row first.1 (omega (arith, first.0.left))
          (λ i below. c.row.ensures.values i (omega (arith, size))) c.look_up_row.ensures;
    }
