use Rattle.std.proofs.Common.{◌≡◌, ◌-◌, min, Some, true, length, length-drop, sym, ap, ◌∙◌, arith}
use Rattle.pnm.specs.declared.fault.PnmFault.{PnmFault}
use Rattle.pnm.specs.declared.fault.PnmKind.TheVariants.{BadHeader}
use Rattle.pnm.specs.Fault.{after_digits, begins, front_digits, number_of, number_text}
use Rattle.pnm.specs.Grammar.{is_decimal, number_from, opens_gap}
use Rattle.pnm.proofs.FaultLemmas.{number_large, number_none, number_opens, number_starts, number_zero, told}
use Rattle.pnm.proofs.header.number_due.Goals as goal

pub returns-then-not-begins_gap : goal.returns-then-not-begins_gap
returns-then-not-begins_gap c =
    number_opens c.args.total c.args.text.now c.args.most c.args.zero c.args.large (sym c.begins_gap.ensures ∙ c.if-not-begins_gap.true)
    ∙ ap (λ (f : PnmFault). Some f) (sym c.fault_at.ensures)

pub returns-then-not-begins_number : goal.returns-then-not-begins_number
returns-then-not-begins_number c =
    let at : c.skip-from.result.now ≡ number_text c.args.text.now = c.skip-from.ensures ∙ c.filling_len.ensures.rest in
    number_starts c.args.total c.args.text.now c.args.most c.args.zero c.args.large (sym c.begins_gap.ensures ∙ c.if-not-begins_gap.false)
    (ap (begins is_decimal) (sym at) ∙ (sym c.begins_number.ensures ∙ c.if-not-begins_number.true))
    ∙ (ap (λ t. told BadHeader c.args.total (length t)) (sym at) ∙ ap (λ (f : PnmFault). Some f) (sym c.fault_at-then-not-begins_number.ensures))

pub returns-then-value-eq0 : goal.returns-then-value-eq0
returns-then-value-eq0 c =
    let at : c.skip-from.result.now ≡ number_text c.args.text.now = c.skip-from.ensures ∙ c.filling_len.ensures.rest in
    let number : c.front_number-value.result.0 ≡ min (number_of c.args.text.now) 1000000 = c.front_number-value.ensures.number ∙ ap (λ t. min (number_from 0 (front_digits t)) 1000000) at in
    number_zero c.args.total c.args.text.now c.args.most c.args.zero c.args.large (sym c.begins_gap.ensures ∙ c.if-not-begins_gap.false)
    (ap (begins is_decimal) (sym at) ∙ (sym c.begins_number.ensures ∙ c.if-not-begins_number.false)) (omega arith)
    ∙ (ap (λ t. told c.args.zero c.args.total (length t)) (sym at) ∙ ap (λ (f : PnmFault). Some f) (sym c.fault_at-then-value-eq0.ensures))

pub returns-then-value-most : goal.returns-then-value-most
returns-then-value-most c =
    let at : c.skip-from.result.now ≡ number_text c.args.text.now = c.skip-from.ensures ∙ c.filling_len.ensures.rest in
    let number : c.front_number-value.result.0 ≡ min (number_of c.args.text.now) 1000000 = c.front_number-value.ensures.number ∙ ap (λ t. min (number_from 0 (front_digits t)) 1000000) at in
    number_large c.args.total c.args.text.now c.args.most c.args.zero c.args.large (sym c.begins_gap.ensures ∙ c.if-not-begins_gap.false)
    (ap (begins is_decimal) (sym at) ∙ (sym c.begins_number.ensures ∙ c.if-not-begins_number.false)) (omega arith) (omega arith)
    ∙ (ap (λ t. told c.args.large c.args.total (length t)) (sym at) ∙ ap (λ (f : PnmFault). Some f) (sym c.fault_at-then-value-most.ensures))

pub returns : goal.returns
returns c =
    let at : c.skip-from.result.now ≡ number_text c.args.text.now = c.skip-from.ensures ∙ c.filling_len.ensures.rest in
    let number : c.front_number-value.result.0 ≡ min (number_of c.args.text.now) 1000000 = c.front_number-value.ensures.number ∙ ap (λ t. min (number_from 0 (front_digits t)) 1000000) at in
    let opens : begins opens_gap c.args.text.now ≡ true = sym c.begins_gap.ensures ∙ c.if-not-begins_gap.false in
    let starts : begins is_decimal (number_text c.args.text.now) ≡ true = ap (begins is_decimal) (sym at) ∙ (sym c.begins_number.ensures ∙ c.if-not-begins_number.false) in
    let from_len : length c.skip-from.result.now ≡ length c.args.text.now - c.filling_len.result = ap length c.skip-from.ensures ∙ length-drop c.filling_len.result c.args.text.now in
    let rest_len : length c.skip-rest.result.now ≡ length c.skip-from.result.now - c.front_number-value.result.1 = ap length c.skip-rest.ensures ∙ length-drop c.front_number-value.result.1 c.skip-from.result.now in
    record {
      none = number_none c.args.total c.args.text.now c.args.most c.args.zero c.args.large opens starts (omega arith) (omega arith);
      has = record { opens = opens; starts = starts };
      value_is = omega arith;
      left_is = ap length at;
      rest_is = c.skip-rest.ensures ∙ (c.front_number-value.ensures.rest ∙ ap after_digits at);
      some = omega arith;
      small = omega arith;
      within = omega arith;
      shorter = omega arith;
    }
