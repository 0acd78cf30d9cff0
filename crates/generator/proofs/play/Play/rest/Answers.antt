use Rattle.std.proofs.Common.{◌≡◌, true, false, sym, ◌∙◌, arith}
use Rattle.generator.proofs.RoundLemmas.{stop_round, go_round, rest_over}
use Rattle.generator.proofs.play.Play.rest.Goals as goal

pub returns-then-not-moved : goal.returns-then-not-moved
returns-then-not-moved g c =
    let still : c.in_ok-moved.moved ≡ false = grind (arith, c.if-not-moved.true) in
    stop_round c.loop-left.left c.loop-left.self c.round.new.self c.in_ok-moved.moved c.in_ok-moved.ensures.moved still c.in_ok-moved.ensures.play ∙ c.loop-left.invariant

pub loop-left-preserved : goal.loop-left-preserved
loop-left-preserved g c =
    let moved : c.in_ok-moved.moved ≡ true = grind (arith, c.if-not-moved.false) in
    go_round c.loop-left.left c.loop-left.self c.round.new.self c.in_ok-moved.moved c.loop-left-test.true c.in_ok-moved.ensures.moved moved c.in_ok-moved.ensures.play ∙ c.loop-left.invariant

pub returns : goal.returns
returns g c = sym (rest_over c.loop-left.left c.loop-left.self c.loop-left-test.false) ∙ c.loop-left.invariant
