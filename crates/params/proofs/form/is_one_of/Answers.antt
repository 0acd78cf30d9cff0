use Rattle.std.proofs.Common.{true, false, sym, ◌∙◌}
use Rattle.params.proofs.FormLemmas.{one_of_more}
use Rattle.params.proofs.form.is_one_of.Goals as goal

pub returns-then-eq : goal.returns-then-eq
returns-then-eq c =
    sym (one_of_more c.args.key.now c.args.keys.now c.loop-each.each-index _ true c.loop-each-test.true (sym c.if-eq.ensures)) ∙ c.loop-each.invariant

pub loop-each-preserved : goal.loop-each-preserved
loop-each-preserved c =
    sym (one_of_more c.args.key.now c.args.keys.now c.loop-each.each-index _ false c.loop-each-test.true (sym c.if-eq.ensures)) ∙ c.loop-each.invariant
