use Rattle.std.proofs.Common.{◌∙◌, ◌++◌, [], sym, ap}
use Rattle.std.specs.Vec.Iter.{into_iter_items}
use Rattle.std.proofs.lemmas.List.{nil_from_length}
use Rattle.std.proofs.lemmas.Result.{err_from_is_err_and}
use Rattle.edit_steps.specs.Faults.{steps_fault}
use Rattle.edit_steps.specs.Script.{Recipe, recipe}
use Rattle.edit_steps.proofs.KeptLemmas.{IsFilling-more, IsFilling-refused, IsFilling-whole}
use Rattle.edit_steps.proofs.script.Script.of.Goals as goal

pub loop-step-init : goal.loop-step-init
loop-step-init c =
    let empty = c.in_ok-draft.ensures in
    let rest = c.into_iter-step-iterator.ensures.into_iter_gives.0 in
    record {
      parts = ap (recipe c.args.settings c.args.opening) (sym rest) ∙ ap (λ (d : Recipe). recipe d.settings d.opening (d.steps ++ into_iter_items c.into_iter-step-iterator.result)) (sym empty);
      allowed = ap (λ (d : Recipe). steps_fault d.settings d.opening [] d.steps) empty;
    }

pub loop-step-preserved : goal.loop-step-preserved
loop-step-preserved c =
    IsFilling-more _ c.loop-step.draft c.push.new.self c.in-Some.step (into_iter_items c.loop-step.step-iterator) (into_iter_items c.next.new.self) c.loop-step.invariant c.in-Some.ensures.steps.0 c.in_ok-push.ensures.answer c.in_ok-push.ensures.longer

pub returns-in_err-push-clause-answer : goal.returns-in_err-push-clause-answer
returns-in_err-push-clause-answer c =
    let refused = IsFilling-refused (Unit {0}) Recipe (recipe c.args.settings c.args.opening c.args.steps.items) c.loop-step.draft c.in-Some.step (into_iter_items c.loop-step.step-iterator) (into_iter_items c.next.new.self) c.in_err-push.field-0.0
    c.loop-step.invariant c.in-Some.ensures.steps.0 c.in_err-push.ensures.answer in
    let given = err_from_is_err_and c.from_residual-in_err-push.result c.from_residual-in_err-push.ensures.1 in
    rw (given.1, given.2) refused

pub returns-clause-answer : goal.returns-clause-answer
returns-clause-answer c =
    let whole = IsFilling-whole (recipe c.args.settings c.args.opening c.args.steps.items) c.loop-step.draft (into_iter_items c.loop-step.step-iterator) c.loop-step.invariant (nil_from_length _ (sym c.loop-step.step-iterator.rest.ok.0 ∙ c.in-None.ensures.steps.0)) in
    ap (λ (r : Recipe). steps_fault r.settings r.opening [] r.steps) whole ∙ c.loop-step.invariant.allowed

pub returns-clause-script : goal.returns-clause-script
returns-clause-script c =
    let whole = IsFilling-whole (recipe c.args.settings c.args.opening c.args.steps.items) c.loop-step.draft (into_iter_items c.loop-step.step-iterator) c.loop-step.invariant (nil_from_length _ (sym c.loop-step.step-iterator.rest.ok.0 ∙ c.in-None.ensures.steps.0)) in
    c.finish.ensures ∙ sym whole
