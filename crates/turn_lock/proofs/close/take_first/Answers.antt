use Rattle.std.proofs.Common.{arith, sym, ap, ◌∙◌, length, get_or, remove}
use Rattle.turn_lock.proofs.Gathering.{taken_or_left, was_there}
use Rattle.turn_lock.proofs.close.take_first.Goals as goal

pub returns-then-number-eq0-clause-first : goal.returns-then-number-eq0-clause-first
returns-then-number-eq0-clause-first g c =
    let same = c.loop-i.invariant.same in
    (c.loop-i.i, omega (arith, ap length same, c.loop-i.passes.ok.0), sym (c.remove.ensures.value ∙ ap (λ l. get_or l c.loop-i.i c.remove.result) same))

pub returns-then-number-eq0-clause-others : goal.returns-then-number-eq0-clause-others
returns-then-number-eq0-clause-others g c =
    let same = c.loop-i.invariant.same in
    taken_or_left _ _ c.loop-i.i _ (omega (arith, ap length same, c.loop-i.passes.ok.0)) (c.remove.ensures.value ∙ ap (λ l. get_or l c.loop-i.i c.remove.result) same) (c.remove.ensures.items ∙ ap (λ l. remove l c.loop-i.i) same)

pub returns-then-number-eq0-clause-kept : goal.returns-then-number-eq0-clause-kept
returns-then-number-eq0-clause-kept g c =
    let same = c.loop-i.invariant.same in
    was_there _ _ c.loop-i.i _ (omega (arith, ap length same, c.loop-i.passes.ok.0)) (c.remove.ensures.value ∙ ap (λ l. get_or l c.loop-i.i c.remove.result) same) (c.remove.ensures.items ∙ ap (λ l. remove l c.loop-i.i) same)

pub unreachable-requires : goal.unreachable-requires
unreachable-requires g c =
    let p = c.requires in
    let same = c.loop-i.invariant.same in
    c.loop-i.invariant.passed p.1.0 p.0 (omega (arith, p.1.1, ap length same, c.loop-i.passes.ok.0)) (ap (λ l. (get_or l p.1.0 p.0).number) same ∙ (ap (λ q. q.number) p.1.2 ∙ p.2))
