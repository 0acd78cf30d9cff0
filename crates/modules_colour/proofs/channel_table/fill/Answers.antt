use Rattle.std.proofs.Common.{◌≡◌, ℕ, ◌+◌, ◌-◌, ◌<◌, ◌≤◌, get_or, refl, sym, ap, ◌∙◌, ⊎_elim, arith}
use Rattle.std.proofs.lemmas.Bool.{cases_lt}
use Rattle.modules_colour.proofs.NodeLemmas.{entries_small, node_value, node_above, before_first, from_first, up_to_next, past_next, past_last}
use Rattle.modules_colour.proofs.channel_table.fill.Goals as goal

pub fill_between-requires-clause-order : goal.fill_between-requires-clause-order
fill_between-requires-clause-order c =
    let was = c.loop-i.invariant in
    let up = node_above c.args.nodes.now c.loop-i.i was.place c.loop-i-test.true c.requires.curve.rises in
    rw was.last_is up

pub fill_between-requires-clause-end : goal.fill_between-requires-clause-end
fill_between-requires-clause-end c = (node_value c.args.nodes.now c.loop-i.i c.loop-i-test.true c.requires.curve.values).input

pub fill_between-requires-clause-second : goal.fill_between-requires-clause-second
fill_between-requires-clause-second c = (node_value c.args.nodes.now c.loop-i.i c.loop-i-test.true c.requires.curve.values).output

pub loop-i-init : goal.loop-i-init
loop-i-init c =
    let nodes = c.args.nodes.now in
    let value = node_value nodes 0 (omega arith) c.requires.curve.values in
    record {
      below = λ v h. c.fill_flat.ensures.here v (omega arith) h ∙ before_first nodes v c.requires.curve.least h;
      later = λ v h. from_first nodes v c.requires.curve.least h;
      place = omega arith;
      last_is = refl;
      input = value.input;
      output = value.output;
    }

pub loop-i-preserved : goal.loop-i-preserved
loop-i-preserved c =
    let nodes = c.args.nodes.now in
    let was = c.loop-i.invariant in
    let value = node_value nodes c.loop-i.i c.loop-i-test.true c.requires.curve.values in
    record {
      below = λ v h. ⊎_elim
          (λ (old : v < c.loop-i.last.0). c.fill_between.ensures.before v old ∙ was.below v old)
          (λ (new : c.loop-i.last.0 ≤ v). c.fill_between.ensures.here v new h ∙ sym (was.later v new ∙ up_to_next nodes c.loop-i.i c.loop-i.last v c.loop-i-test.true h))
          (cases_lt v c.loop-i.last.0);
      later = λ v h.
          let up = node_above nodes c.loop-i.i was.place c.loop-i-test.true c.requires.curve.rises in
          let low : c.loop-i.last.0 ≤ v = let e = ap (λ (n : ℕ × ℕ). n.0) was.last_is in omega (arith, up, e) in
          was.later v low ∙ past_next nodes c.loop-i.i c.loop-i.last v c.loop-i-test.true h;
      place = omega arith;
      last_is = let e : c.loop-i.i + 1 - 1 ≡ c.loop-i.i = omega arith in ap (λ n. get_or nodes n (0, 0)) (sym e);
      input = value.input;
      output = value.output;
    }

pub returns-clause-same : goal.returns-clause-same
returns-clause-same c v h =
    let was = c.loop-i.invariant in
    ⊎_elim
    (λ (old : v < c.loop-i.last.0). c.fill_flat-2.ensures.before v old ∙ was.below v old)
    (λ (new : c.loop-i.last.0 ≤ v). c.fill_flat-2.ensures.here v new h ∙ sym (was.later v new ∙ past_last c.args.nodes.now c.loop-i.i c.loop-i.last v c.loop-i-test.false))
    (cases_lt v c.loop-i.last.0)

pub returns-clause-top : goal.returns-clause-top
returns-clause-top c = entries_small c.args.nodes.now c.fill_flat-2.new.table c.requires.curve.values (omega arith) (λ v h.
    let was = c.loop-i.invariant in
    ⊎_elim
    (λ (old : v < c.loop-i.last.0). c.fill_flat-2.ensures.before v old ∙ was.below v old)
    (λ (new : c.loop-i.last.0 ≤ v). c.fill_flat-2.ensures.here v new h ∙ sym (was.later v new ∙ past_last c.args.nodes.now c.loop-i.i c.loop-i.last v c.loop-i-test.false))
    (cases_lt v c.loop-i.last.0))
