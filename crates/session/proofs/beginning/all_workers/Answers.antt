use Rattle.std.proofs.Common.{◌≡◌, ℕ, ◌+◌, ◌-◌, ◌++◌, ◌∷◌, [], List, map, append_assoc, subst, sym, ap, ◌∙◌, arith}
use Rattle.session.specs.declared.worker.Worker.{Worker}
use Rattle.session.specs.Workers.{AreFresh, fresh_worker}
use Rattle.session.specs.Finished.{down_from}
use Rattle.session.proofs.Listing.{down_next}
use Rattle.session.proofs.beginning.all_workers.Goals as goal

pub loop-left-preserved : goal.loop-left-preserved
loop-left-preserved c =
    let n = c.loop-left.left in
    let f = fresh_worker c.args.shared.now in
    let made = c.loop-left.workers.items in
    let rest : List Worker = map f (down_from (n - 1)) in
    let same : n ≡ n - 1 + 1 = omega (arith, c.loop-left-test.true) in
    record {
      passes = subst (λ (k : ℕ). AreFresh c.args.shared.now k c.last_worker.new.passes) same c.last_worker.ensures.rest;
      made =
          ap (λ (ws : List Worker). ws ++ rest) (c.in_ok-push.ensures.items ∙ ap (λ (w : Worker). made ++ w ∷ []) c.last_worker.ensures.worker)
          ∙ (append_assoc made (f n ∷ []) rest ∙ (ap (λ (ws : List Worker). made ++ ws) (sym (down_next f n c.loop-left-test.true)) ∙ c.loop-left.invariant.made));
    }
