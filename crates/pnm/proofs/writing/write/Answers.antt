use Rattle.std.proofs.Common.{ap, ◌∙◌}
use Rattle.std.proofs.lemmas.Result.{IfOk-weaker}
use Rattle.pnm.proofs.SampleLemmas.{written_of_whole}
use Rattle.pnm.proofs.writing.write.Goals as goal

pub returns : goal.returns
returns c =
    let sides = c.sides-w.ensures.sides in
    IfOk-weaker c.write_values.result _ _ (λ b bytes q part.
    bytes ∙ written_of_whole c.args.plane.now q _ _ _ c.args.depth c.sides-w.ensures.valid part c.requires.rgb c.requires.whole
    (ap (λ s. s.0) sides) (ap (λ s. s.1) sides) c.values.ensures.values) c.write_values.ensures
