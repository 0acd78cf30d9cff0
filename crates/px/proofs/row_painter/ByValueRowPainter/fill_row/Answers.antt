use Rattle.std.proofs.Common.{◌≡◌, ◌+◌, refl, [], ◌∷◌, arith}
use Rattle.px.specs.Painted.{GivesOne}
use Rattle.px.proofs.RowLemmas.{row_more, adds_one}
use Rattle.px.proofs.row_painter.ByValueRowPainter.fill_row.Goals as goal

pub loop-k-preserved : goal.loop-k-preserved
loop-k-preserved g c =
    let gives : GivesOne (goal.F-post g c.args.self.now.value (c.args.x + c.loop-k.k) c.args.y) (c.value.result ∷ []) = (c.value.result, c.value.ensures, refl) in
    row_more _ _ _ 1 _ _ (c.value.result ∷ []) _ c.loop-k.invariant gives (c.requires.gives _ (c.value.result ∷ []) c.loop-k-test.true gives)
    (adds_one c.loop-k.k c.loop-k.row (c.value.result ∷ []) (omega arith))

pub returns : goal.returns
returns g c =
    let all : c.loop-k.k ≡ c.args.n = omega arith in record { row = rw all at c.loop-k.invariant }
