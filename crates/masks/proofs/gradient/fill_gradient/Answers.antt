use Rattle.std.proofs.Common.{◌≡◌, ap, ◌∙◌, arith}
use Rattle.std.proofs.lemmas.Int.{ints}
use mir.Syntax.{w64}
use mir.Val.{of_z, to_z}
use Rattle.masks.specs.Coverage.{risen}
use Rattle.masks.specs.Lines.{along_at}
use Rattle.masks.proofs.FillLemmas.{filled_one}
use Rattle.masks.proofs.gradient.fill_gradient.Goals as goal

pub loop-k-preserved : goal.loop-k-preserved
loop-k-preserved c =
    let fits : to_z w64 (of_z w64 c.along_at.result) ≡ c.along_at.result = omega (arith, ints) in
    filled_one (λ k. risen (along_at c.args.line k) c.args.slope) c.loop-k.k c.loop-k.row c.risen.result (omega arith) c.loop-k.invariant
    (c.risen.ensures.value ∙ ap (λ z. risen z c.args.slope) (fits ∙ c.along_at.ensures.value))
