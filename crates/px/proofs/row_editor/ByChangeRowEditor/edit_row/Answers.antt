use Rattle.std.proofs.Common.{◌≡◌, ◌+◌, ◌*◌, subst, refl, arith}
use Rattle.px.proofs.RowLemmas.{adds_three}
use Rattle.px.proofs.EditLemmas.{three_kept, edited_more}
use Rattle.px.proofs.row_editor.ByChangeRowEditor.edit_row.Goals as goal

pub loop-k-preserved : goal.loop-k-preserved
loop-k-preserved g c =
    let kept = three_kept (goal.F-post g c.args.self.now.change.now) c.args.x c.args.y c.loop-k.k c.args.row.now c.loop-k.row c.loop-k.invariant in
    let given = subst (λ t. goal.F-post g c.args.self.now.change.now (c.args.x + c.loop-k.k) c.args.y t c.change-pixel.result) kept c.change-pixel.ensures in
    edited_more (goal.F-post g c.args.self.now.change.now) c.args.x c.args.y c.loop-k.k c.args.row.now c.loop-k.row c.change-pixel.result _
    c.loop-k.invariant given (c.requires.gives c.loop-k.k c.change-pixel.result c.loop-k-test.true given)
    (adds_three c.loop-k.k (c.loop-k.k * 3) c.loop-k.row c.change-pixel.result refl (omega arith))

pub returns : goal.returns
returns g c =
    let all : c.loop-k.k ≡ c.args.n = omega arith in record { row = rw all at c.loop-k.invariant }
