use Rattle.std.proofs.Common.{◌≡◌, ◌+◌, ◌∷◌, ◌∙◌, suc, drop, sym, ap, subst, cond, arith, drop-cons}
use Rattle.edit_steps.specs.Changes.{is_change}
use Rattle.edit_steps.specs.Script.{Recipe, IsScript}
use Rattle.edit_steps.proofs.KeptLemmas.{IsOnTheWay, IsOnTheWay-start, IsOnTheWay-on}
use Rattle.edit_steps.proofs.script.Script.history_at.Goals.{then-is_change, else-is_change}
use Rattle.edit_steps.proofs.script.Script.history_at.Goals as goal

pub loop-step-init : goal.loop-step-init
loop-step-init c =
    let r = c.args.self.now in
    let start = IsOnTheWay-start r c.args.m (subst IsScript c.self.view_is c.self.invariant.script) in
    let begun = subst (λ hs. IsOnTheWay r c.args.m hs r.steps c.args.m) (sym c.in_ok-histories.ensures) start in
    let same = ap (λ (x : Recipe). x.steps) (sym c.self.view_is) ∙ sym c.deref-step-items.ensures.value in
    subst (λ steps. IsOnTheWay r c.args.m c.in_ok-histories.histories steps c.args.m) same begun

pub loop-step-preserved : goal.loop-step-preserved
loop-step-preserved c =
    let step = c.step-item.result in
    let items = c.deref-step-items.result.now in
    let rest = drop (c.loop-step.step-index + 1) items in
    let next : suc c.loop-step.step-index ≡ c.loop-step.step-index + 1 = omega arith in
    let first : drop c.loop-step.step-index items ≡ step ∷ rest = drop-cons items c.loop-step.step-index step (omega (arith, c.loop-step-test.true, c.deref-step-items.ensures.len)) ∙ ap (λ s. s ∷ drop (suc c.loop-step.step-index) items) (sym c.step-item.is) ∙ ap (λ n. step ∷ drop n items) next in
    let way = subst (λ steps. IsOnTheWay c.args.self.now c.args.m c.loop-step.histories steps c.loop-step.left) first c.loop-step.invariant in
    let left : c.loop-step.left ≡ cond (is_change step) (suc c.if-is_change.left) c.if-is_change.left =
    elim c.if-is_change.branch [
      | then-is_change w ↦
          let less : c.loop-step.left ≡ suc c.if-is_change.left = omega (arith, w.left-is, c.if-left-eq0.false) in
          less ∙ ap (λ b. cond b (suc c.if-is_change.left) c.if-is_change.left) (sym w.if-is_change.true ∙ c.is_change.ensures)
      | else-is_change w ↦ sym w.left-is ∙ ap (λ b. cond b (suc c.if-is_change.left) c.if-is_change.left) (sym w.if-is_change.false ∙ c.is_change.ensures)
    ] in
    IsOnTheWay-on c.args.self.now c.args.m c.loop-step.histories c.follow.new.histories step rest c.loop-step.left c.if-is_change.left way c.in_ok-follow.ensures.histories left
