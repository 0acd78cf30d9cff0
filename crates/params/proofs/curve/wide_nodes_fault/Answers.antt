use Rattle.std.proofs.Common.{◌≡◌, arith, refl, sym, ◌∙◌, get_or, [], Ok, Err, pos}
use Rattle.std.proofs.lemmas.Int.{to_z-of_z}
use Rattle.std.proofs.lemmas.Result.{err_from_is_err_and}
use Rattle.params.specs.Stated.{node_entries}
use Rattle.params.specs.Rules.{first_fault}
use Rattle.params.proofs.Faults.{nodes_behind, nodes_here, nodes_done}
use Rattle.params.proofs.curve.wide_nodes_fault.Goals as goal

pub returns-in_err-node_fault : goal.returns-in_err-node_fault
returns-in_err-node_fault c =
    let p = err_from_is_err_and c.from_residual.result c.from_residual.ensures.1 in
    let l = c.loop-node in
    let nodes = c.args.nodes.now in
    let here : first_fault (node_entries c.args.field l.at l.before (get_or nodes l.node-index (pos 0, pos 0)) []) ≡ Err c.in_err-node_fault.field-0.0 =
    grind (arith, to_z-of_z) in
    let same = rw l.before-is at l.invariant.same in
    rw (p.1, p.2) (sym (nodes_here (λ ns. ns) (λ n. n) (λ _ _. refl) c.args.field l.at l.before nodes l.node-index (pos 0, pos 0) _ c.loop-node-test.true here) ∙ same)

pub loop-node-preserved : goal.loop-node-preserved
loop-node-preserved c =
    let l = c.loop-node in
    let nodes = c.args.nodes.now in
    let here : first_fault (node_entries c.args.field l.at l.before (get_or nodes l.node-index (pos 0, pos 0)) []) ≡ Ok tt = grind (arith, to_z-of_z) in
    let step = nodes_behind (λ ns. ns) (λ n. n) (λ _ _. refl) c.args.field l.at l.before nodes l.node-index (pos 0, pos 0) c.loop-node-test.true here in
    record { at = grind arith; same = grind (arith, to_z-of_z, step, l.invariant.same) }

pub returns : goal.returns
returns c = sym (nodes_done (λ ns. ns) refl _ _ _ c.args.nodes.now c.loop-node.node-index c.loop-node-test.false) ∙ c.loop-node.invariant.same
