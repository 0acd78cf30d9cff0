use Rattle.std.proofs.Common.{sym, ◌∙◌}
use Rattle.pnm.proofs.WordLemmas.{digits_step}
use Rattle.pnm.proofs.words.front_number.Goals as goal

pub loop-k-preserved : goal.loop-k-preserved
loop-k-preserved c =
    let was = c.loop-k.invariant in
    let step = digits_step c.args.text.now c.loop-k.k c.loop-k.value c.from.result c.min-value.result (record { value_is = was.value; digits = was.digits; rest = was.rest })
    c.loop-k-test.true (sym c.is_decimal.ensures ∙ c.if-not-is_decimal.false) c.from.ensures c.min-value.ensures in
    record { value = step.value_is; digits = step.digits; rest = step.rest }
