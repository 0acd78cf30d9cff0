use Rattle.std.proofs.Common.{◌<◌, ◌≤◌, ◌^◌, arith}
use Rattle.develop_session.proofs.NumberLemmas.{few_digits}
use Rattle.develop_session.proofs.command.number_in.Goals as goal

pub overflow_mul-number : goal.overflow_mul-number
overflow_mul-number c =
    let few : c.loop-digit.digit-index ≤ 8 = omega arith in
    let top : 10 ^ c.loop-digit.digit-index ≤ 100000000 = few_digits c.loop-digit.digit-index few in
    let low : c.loop-digit.number < 10 ^ c.loop-digit.digit-index = c.loop-digit.invariant.low in
    omega (arith, top, low)

pub overflow_add-number : goal.overflow_add-number
overflow_add-number c =
    let few : c.loop-digit.digit-index ≤ 8 = omega arith in
    let top : 10 ^ c.loop-digit.digit-index ≤ 100000000 = few_digits c.loop-digit.digit-index few in
    let low : c.loop-digit.number < 10 ^ c.loop-digit.digit-index = c.loop-digit.invariant.low in
    omega (arith, top, low, c.from.ensures)
