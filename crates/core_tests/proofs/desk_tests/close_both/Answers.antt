use Rattle.std.proofs.Common.{arith, ◌≡◌, [], ◌∷◌, ◌++◌, map, ap, ◌∙◌}
use Rattle.std.specs.List.{range_with_len}
use Rattle.turn_lock.proofs.Gathering.{all_in_order}
use Rattle.core_tests.proofs.desk_tests.close_both.Goals as goal

pub close-requires-clause-all : goal.close-requires-clause-all
close-requires-clause-all c n below =
    let one = c.in_ok-push.ensures.items ∙ ap (λ l. l ++ c.args.first ∷ []) c.requires.all.0 in
    let two = c.in_ok-push-2.ensures.items ∙ ap (λ l. l ++ c.args.second ∷ []) one in
    let numbers : map (λ p. p.number) c.push-2.new.self.items ≡ range_with_len 0 2 = ap (map (λ p. p.number)) two ∙ (λ i. c.requires.first.1 i ∷ c.requires.second.1 i ∷ []) in
    all_in_order c.push-2.new.self.items 0 2 numbers n (omega arith) (omega (arith, below, c.requires.all.1))
