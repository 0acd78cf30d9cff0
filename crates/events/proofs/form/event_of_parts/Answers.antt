use Rattle.std.proofs.Common.{◌≡◌, length, arith, ◌∙◌, sym}
use Rattle.events.proofs.FormLemmas.{two_parts, three_parts}
use Rattle.events.proofs.form.event_of_parts.Goals as goal

pub returns-in-len2 : goal.returns-in-len2
returns-in-len2 c =
    let len : length c.args.parts.now ≡ 2 = omega arith in
    c.event_of_two.ensures ∙ sym (two_parts c.args.parts.now c.word-item-then-parts-lt3.result c.worker-item.result len c.word-item-then-parts-lt3.is c.worker-item.is)

pub returns-in-len3 : goal.returns-in-len3
returns-in-len3 c =
    let len : length c.args.parts.now ≡ 3 = omega arith in
    c.event_of_three.ensures ∙ sym (three_parts c.args.parts.now c.word-item-then-parts-lt4.result c.worker-item-then-parts-lt4.result c.third-item.result len c.word-item-then-parts-lt4.is c.worker-item-then-parts-lt4.is c.third-item.is)
